pub mod Lists
pub mod Steps
pub mod Places
pub mod Sums
