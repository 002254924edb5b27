pub mod Routes
pub mod Instances
