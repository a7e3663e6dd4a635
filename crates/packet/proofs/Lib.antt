pub mod Packets
pub mod Refusals
pub mod Ends
pub mod Laws
pub mod Unique
