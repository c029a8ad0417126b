pub mod Standard
pub mod Sheets
pub mod Laws
pub mod Stored
pub mod Same
