pub mod Rules
pub mod NotLocked
pub mod Answers
pub mod Listed
