pub mod Ring
pub mod inner
