pub mod Tokens
pub mod Net
