pub mod Sum
pub mod Buffer
pub mod Wrote
pub mod Change
pub mod Wide
