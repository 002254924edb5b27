pub mod Rows
pub mod Cut
pub mod Joined
pub mod Documents
pub mod Protos
