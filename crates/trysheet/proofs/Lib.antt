mod Summing
mod Copying
mod Tries
pub mod Unique
