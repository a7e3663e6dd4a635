mod Rows
pub mod Starred
pub mod Further
