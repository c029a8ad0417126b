pub mod Views
pub mod Twins
