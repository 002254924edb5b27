pub mod Answer
pub mod Frame
pub mod Pattern
