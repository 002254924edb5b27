pub mod SortLaws
pub mod KeyLaws
pub mod StepLaws
pub mod FindLaws
pub mod UseLaws
pub mod PlaceLaws
