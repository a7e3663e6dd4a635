mod Values
mod Loads
mod Rows
mod Looking
mod Filling
pub mod Driven
pub mod Commands
pub mod Unique
