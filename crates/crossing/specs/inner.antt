pub mod Tables
pub mod Sound
pub mod OneProof
