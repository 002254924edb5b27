pub mod PickedLaws
pub mod SourcedLaws
pub mod InstanceLaws
