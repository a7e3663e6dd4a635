mod TextLines
pub mod Deliveries
mod Playing
mod Whole
pub mod Within
pub mod Bound
pub mod Examples
pub mod Unique
