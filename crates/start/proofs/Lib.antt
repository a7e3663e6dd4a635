pub mod Starting
pub mod Unique
