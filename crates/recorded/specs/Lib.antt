pub mod Trace
pub mod Walks
