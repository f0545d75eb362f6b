pub mod Range
pub mod Ranges
pub mod Classes
pub mod Rows
