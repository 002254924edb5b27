pub mod Reading
pub mod WellFormed
pub mod RecordsStay
