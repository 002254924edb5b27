pub mod PickIn
pub mod Picks
pub mod Newer
pub mod Walked
pub mod Examples
pub mod Mark
