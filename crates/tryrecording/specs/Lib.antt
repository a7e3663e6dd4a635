pub mod Form
pub mod Writing
pub mod Trying
pub mod Moves
