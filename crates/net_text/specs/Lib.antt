pub mod Lines
pub mod Parts
pub mod inner
