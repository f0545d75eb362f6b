pub mod Listing
pub mod Page
