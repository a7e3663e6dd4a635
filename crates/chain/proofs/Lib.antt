pub mod Walk
pub mod Record
mod Seeing
mod Acting
pub mod Unique
