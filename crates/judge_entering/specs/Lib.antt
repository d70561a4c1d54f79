pub mod Times
pub mod inner
