pub mod Tagged
pub mod Instances
pub mod NodeRows
