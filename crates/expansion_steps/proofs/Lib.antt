pub mod ListLaws
pub mod Laws
pub mod Unique
pub mod Depth
pub mod Gain
pub mod Exact
pub mod Defaults
