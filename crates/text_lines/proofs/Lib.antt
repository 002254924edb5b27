pub mod ListLaws
pub mod ChunkLaws
pub mod ReadLaws
pub mod WriteLaws
pub mod FieldLaws
pub mod LineLaws
pub mod Inverse
