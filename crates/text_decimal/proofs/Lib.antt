pub mod StoreLaws
pub mod DecimalLaws
