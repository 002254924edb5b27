pub mod Writing
pub mod Cells
pub mod Lists
