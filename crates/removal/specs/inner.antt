pub mod Plannable
pub mod Passable
pub mod Solved
