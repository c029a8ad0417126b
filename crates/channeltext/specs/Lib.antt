pub mod Channels
pub mod Requests
pub mod Shown
