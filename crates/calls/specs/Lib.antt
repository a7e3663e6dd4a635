pub mod Calls
pub mod Understanding
pub mod Finding
pub mod Alike
