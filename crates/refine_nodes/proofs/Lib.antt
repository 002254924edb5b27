pub mod Mapping
pub mod Reserving
pub mod Looking
pub mod Filling
pub mod Ends
