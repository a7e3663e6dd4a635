pub mod Example
pub mod Starred
pub mod Further
