pub mod Role
pub mod Owner
pub mod Control
pub mod Ranges
pub mod Divisors
