pub mod OneCart
pub mod Turns
