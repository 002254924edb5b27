pub mod Table
pub mod Chosen
