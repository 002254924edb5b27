pub mod Cells
pub mod Lists
pub mod Handles
pub mod Frame
