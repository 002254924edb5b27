pub mod Writing
pub mod Walks
pub mod Chains
pub mod Records
