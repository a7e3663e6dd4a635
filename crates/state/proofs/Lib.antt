mod Orders
mod Exchanges
mod States
pub mod Unique
