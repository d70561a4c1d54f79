pub mod System
pub mod Search
pub mod Moves
pub mod Runs
pub mod Records
pub mod Cycles
pub mod Rings
pub mod Chains
