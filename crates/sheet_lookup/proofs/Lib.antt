pub mod DocLaws
