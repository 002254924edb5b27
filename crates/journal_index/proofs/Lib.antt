pub mod Keys
pub mod Trees
pub mod Links
pub mod Index
