pub mod Roles
pub mod Lists
pub mod Unique
