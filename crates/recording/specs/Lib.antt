pub mod Recording
pub mod Stages
