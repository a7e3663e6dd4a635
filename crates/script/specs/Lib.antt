pub mod Answers
pub mod Bench
pub mod Line
pub mod Example
