pub mod WritingLaws
pub mod SameBytes
pub mod AgainLaws
