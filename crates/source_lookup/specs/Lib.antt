pub mod Instance
pub mod Sourced
