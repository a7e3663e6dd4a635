mod Prefix
mod Owner
pub mod Refusals
pub mod Unique
