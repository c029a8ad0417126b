pub mod Alike
pub mod Filling
pub mod Gaps
pub mod Holding
pub mod Questions
pub mod Working
pub mod Seeking
