pub mod Numbers
pub mod Verdict
pub mod Words
pub mod Pointing
pub mod Rings
pub mod Answers
pub mod Reading
pub mod Outcomes
