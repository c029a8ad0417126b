pub mod Limits
pub mod Pairs
pub mod Sheets
pub mod Laws
