pub mod Count
pub mod Promises
pub mod Steps
pub mod Examples
