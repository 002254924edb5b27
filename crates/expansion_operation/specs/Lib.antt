pub mod Operation
pub mod Promises
pub mod Limits
pub mod Looking
pub mod Examples
