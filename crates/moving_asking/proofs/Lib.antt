pub mod Bit
pub mod Counted
pub mod Ahead
pub mod Tested
pub mod Request
pub mod InTables
pub mod AskLaws
