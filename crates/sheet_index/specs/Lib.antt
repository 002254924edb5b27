pub mod Index
pub mod Once
