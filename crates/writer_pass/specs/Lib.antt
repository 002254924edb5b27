pub mod Externs
pub mod Document
