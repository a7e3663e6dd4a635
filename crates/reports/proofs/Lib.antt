mod Closing
pub mod Concluding
pub mod Validity
pub mod Unique
