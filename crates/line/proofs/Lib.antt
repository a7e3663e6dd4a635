pub mod Words
mod Exact
pub mod Refusing
mod Due
mod Closing
pub mod Returning
pub mod Exactly
mod Sound
mod Invariant
mod Getting
mod Peace
mod Delivery
mod Step
mod Ready
mod Suits
mod Walk
mod Exchange
mod Telling
mod Benching
pub mod Powering
mod Course
mod Calls
pub mod Demand3
mod Rounds
mod Passes
mod Rides
mod Paces
pub mod Courses
pub mod Missed
