pub mod Made
pub mod Strangers
