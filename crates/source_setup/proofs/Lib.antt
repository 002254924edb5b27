pub mod ListingLaws
pub mod CacheLaws
pub mod PrepareLaws
