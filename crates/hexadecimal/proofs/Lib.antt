pub mod Puts
pub mod Storing
mod Pairing
pub mod Meaning
pub mod Unique
