pub mod Directory
pub mod Grouped
