pub mod Answer
pub mod Read
pub mod Write
pub mod Examples
