pub mod Texts
pub mod Reading
pub mod Shown
pub mod Views
