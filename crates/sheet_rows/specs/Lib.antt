pub mod Rows
pub mod Parse
pub mod Print
