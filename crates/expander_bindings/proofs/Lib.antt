pub mod Steps
pub mod Targets
pub mod Associations
pub mod Stored
