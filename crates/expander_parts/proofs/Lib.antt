pub mod Counts
pub mod Lending
pub mod Externs
pub mod Routes
pub mod Said
pub mod Ordered
