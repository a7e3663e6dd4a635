pub mod Counts
pub mod Sizes
pub mod Unique
