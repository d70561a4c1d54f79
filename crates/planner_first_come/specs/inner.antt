pub mod Earlier
pub mod Putting
