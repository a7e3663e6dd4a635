mod Confirming
pub mod Entries
pub mod Unique
