pub mod Sound
pub mod Stepping
pub mod Meaning
pub mod Alike
mod Exits
pub mod Unique
