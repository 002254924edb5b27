pub mod Fields
pub mod Interfaces
