pub mod WalkLaws
pub mod BareLaws
pub mod ElementsLaws
pub mod OverLaws
