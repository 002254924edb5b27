pub mod MemberLaws
pub mod NewerLaws
pub mod GrowLaws
pub mod WalkedLaws
