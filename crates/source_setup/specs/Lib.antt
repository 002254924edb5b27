pub mod Listing
pub mod Prepared
