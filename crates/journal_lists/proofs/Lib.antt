pub mod Owned
pub mod Families
