pub mod Sums
pub mod Copies
pub mod Trying
