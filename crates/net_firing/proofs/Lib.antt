pub mod CanFire
pub mod Firing
pub mod Rounds
pub mod Answers
pub mod SameNet
