mod Following
pub mod Walks
pub mod Recordable
