pub mod Graph
pub mod Examples
