pub mod Logs
pub mod ExternRows
pub mod DocumentRows
pub mod Passing
