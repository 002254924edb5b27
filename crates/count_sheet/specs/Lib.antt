pub mod Sheet
pub mod Promises
pub mod Steps
pub mod Examples
