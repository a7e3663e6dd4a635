pub mod Packet
pub mod Build
