pub mod Setting
pub mod Effect
pub mod Node
pub mod Parts
