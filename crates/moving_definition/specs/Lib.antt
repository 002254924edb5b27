pub mod Moving
pub mod Promises
pub mod Slides
pub mod Examples
