pub mod Items
pub mod Grown
pub mod Reply
