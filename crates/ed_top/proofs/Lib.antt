mod Made
pub mod Kit
pub mod Scripts
pub mod OneOutcome
mod Writing
mod Completing
