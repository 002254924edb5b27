pub mod ListLaws
pub mod Promised
