pub mod Checks
pub mod Limits
