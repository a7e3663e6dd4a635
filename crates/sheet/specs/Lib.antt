pub mod Line
pub mod Sheet
pub mod Packets
pub mod Form
pub mod Reading
pub mod Example
