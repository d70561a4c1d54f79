pub mod Firing
pub mod inner
