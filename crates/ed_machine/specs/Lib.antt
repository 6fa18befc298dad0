pub mod State
pub mod OrderTable
pub mod Steps
pub mod Reached
pub mod Sound
pub mod Start
pub mod Sheet
