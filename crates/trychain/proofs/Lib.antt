mod Exits
pub mod Unique
