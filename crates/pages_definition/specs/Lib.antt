pub mod Pages
pub mod Steps
pub mod Promises
pub mod Examples
