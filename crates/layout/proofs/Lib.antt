mod Fields
mod Known
pub mod Unique
