pub mod Turns
pub mod Telling
pub mod Fields
pub mod Answers
pub mod Unique
