-- The definitions that the roster's contracts cite.
pub mod Answers
pub mod Bounds
pub mod Faults
pub mod Limits
pub mod Model
pub mod Runs
pub mod Views
