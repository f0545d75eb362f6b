pub mod Disjoint
pub mod Scan
pub mod Bytes
pub mod Wrapped
pub mod Unique
