pub mod Sound
pub mod Refusals
pub mod Does
pub mod Contract
