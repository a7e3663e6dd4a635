pub mod Bytes
mod Growing
mod Showing
pub mod Counts
pub mod Replies
pub mod Unique
