pub mod Counts
pub mod Items
pub mod Rows
