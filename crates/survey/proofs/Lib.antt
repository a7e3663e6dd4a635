pub mod Members
mod Searching
pub mod Visiting
pub mod Touching
pub mod Repliers
pub mod Meaning
pub mod Collisions
pub mod Hearing
pub mod Flags
pub mod Joining
pub mod Refusals
pub mod Lengths
pub mod Surveying
pub mod Unique
