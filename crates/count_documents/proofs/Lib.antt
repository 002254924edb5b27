pub mod CountLaws
pub mod PlaceLaws
pub mod TallyLaws
pub mod Promised
