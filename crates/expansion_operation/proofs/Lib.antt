pub mod Targets
pub mod Said
pub mod Tests
pub mod Cases
pub mod Promised
pub mod Looked
pub mod Limited
