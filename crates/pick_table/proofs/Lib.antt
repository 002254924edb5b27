pub mod SourceLaws
pub mod TableLaws
pub mod ListedLaws
pub mod PickLaws
