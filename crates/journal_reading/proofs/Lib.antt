pub mod Words
pub mod Chains
pub mod Logs
pub mod Fair
pub mod Nodes
pub mod States
pub mod Lookups
pub mod Walks
