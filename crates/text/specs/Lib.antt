pub mod Lines
pub mod Each
pub mod Digits
pub mod Same
