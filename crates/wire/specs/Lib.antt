pub mod Promise
pub mod Numbers
pub mod Address
pub mod Kind
pub mod Part
