mod Forms
mod Sends
mod Tries
pub mod Unique
