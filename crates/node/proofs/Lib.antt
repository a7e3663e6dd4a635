pub mod Laws
mod Acting
pub mod Unique
