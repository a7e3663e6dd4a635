pub mod Form
pub mod Trying
