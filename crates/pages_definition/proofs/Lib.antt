pub mod TextLaws
pub mod WalkedLaws
pub mod PageLaws
pub mod LineLaws
pub mod Promised
