pub mod Groups
pub mod Checks
pub mod Part
pub mod Filling
pub mod One
pub mod Unique
pub mod Steps
