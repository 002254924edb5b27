pub mod Eachs
pub mod RangedState
pub mod Ranged
pub mod RowCount
pub mod Output
