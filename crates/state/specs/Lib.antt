pub mod Order
pub mod Exchange
pub mod State
