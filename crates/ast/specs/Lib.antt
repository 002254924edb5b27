pub mod Ast
pub mod Choice
pub mod Each
pub mod Expanded
pub mod Lists
pub mod Lookups
pub mod Ids
