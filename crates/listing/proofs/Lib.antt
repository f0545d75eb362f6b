pub mod Decimal
pub mod Adding
pub mod Front
pub mod Lines
pub mod Listed
pub mod Unique
pub mod Examples
