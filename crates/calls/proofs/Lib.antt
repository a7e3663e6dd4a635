pub mod Standing
mod Nobody
pub mod Twice
pub mod Finding
pub mod Rates
pub mod Busy
pub mod Unique
