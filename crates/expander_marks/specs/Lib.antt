pub mod Positions
pub mod Kept
pub mod Contract
pub mod Examples
