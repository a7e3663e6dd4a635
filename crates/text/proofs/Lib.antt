pub mod Parts
mod Numerals
pub mod Sameness
pub mod Meaning
pub mod Unique
