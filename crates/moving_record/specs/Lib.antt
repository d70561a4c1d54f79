pub mod Record
pub mod inner
