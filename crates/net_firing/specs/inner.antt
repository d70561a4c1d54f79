pub mod Net
pub mod Marking
