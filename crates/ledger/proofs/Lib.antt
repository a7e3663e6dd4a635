mod Turns
pub mod Ledgers
pub mod Unique
