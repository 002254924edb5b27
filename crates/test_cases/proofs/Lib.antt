pub mod FillLaws
pub mod FrameLaws
