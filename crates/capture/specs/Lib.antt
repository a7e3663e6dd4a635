pub mod Captures
pub mod Packets
pub mod Checks
pub mod Steps
pub mod Traces
pub mod Laying
