pub mod Records
pub mod Made
pub mod Logs
pub mod Lists
