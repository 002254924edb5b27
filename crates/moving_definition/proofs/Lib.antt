pub mod SumLaws
pub mod PeakLaws
pub mod SlideLaws
pub mod Promised
pub mod Answers
