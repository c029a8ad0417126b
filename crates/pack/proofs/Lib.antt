pub mod Literals
pub mod Ranges
pub mod Folds
pub mod Bits
