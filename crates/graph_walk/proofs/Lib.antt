pub mod StateLaws
pub mod ScanLaws
pub mod LoopLaws
pub mod Printed
pub mod Bounds
pub mod WalkLaws
