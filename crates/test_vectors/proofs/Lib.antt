pub mod CasesLaws
pub mod FrameLaws
