mod Forms
mod Writes
mod Walks
mod Shows
mod Tries
pub mod Unique
