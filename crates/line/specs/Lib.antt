pub mod History
pub mod Call
pub mod Line
pub mod World
pub mod Demand3
pub mod Courses
pub mod Late
pub mod Missed
