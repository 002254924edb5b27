pub mod Entries
pub mod Runs
pub mod Steps
pub mod Taking
pub mod Ordering
