pub mod Reading
pub mod Own
pub mod Looking
pub mod Build
pub mod Filling
