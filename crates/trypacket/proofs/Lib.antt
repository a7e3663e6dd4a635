pub mod Trials
pub mod Unique
