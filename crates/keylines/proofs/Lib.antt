pub mod Closing
pub mod Erases
pub mod Histories
pub mod Puts
pub mod Tops
pub mod Words
