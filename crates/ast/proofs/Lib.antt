pub mod Basics
pub mod OptionLaws
