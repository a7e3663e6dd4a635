pub mod One
pub mod Chain
pub mod Delivery
pub mod Sets
pub mod Survey
pub mod Decision
