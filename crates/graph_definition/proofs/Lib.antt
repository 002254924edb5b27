pub mod Distinct
pub mod Exact
