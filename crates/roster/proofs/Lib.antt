-- Why the roster's contracts hold.
pub mod Staying
