mod Sending
pub mod Passing
pub mod Sent
pub mod Stands
pub mod Validity
pub mod Unique
