pub mod Sums
pub mod Writing
pub mod Appends
pub mod Refusals
pub mod Bytes
pub mod Unique
