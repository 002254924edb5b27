pub mod Checked
pub mod Grammar
pub mod Examples
