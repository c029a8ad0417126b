pub mod Runs
pub mod Parts
pub mod Cutting
pub mod Endings
pub mod Whole
