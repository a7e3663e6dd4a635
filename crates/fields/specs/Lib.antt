pub mod Field
pub mod Answer
pub mod Lending
pub mod Kind
pub mod Record
