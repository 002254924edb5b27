pub mod DirectoryLaws
pub mod GroupLaws
