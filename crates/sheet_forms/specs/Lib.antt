pub mod Several
pub mod Examples
