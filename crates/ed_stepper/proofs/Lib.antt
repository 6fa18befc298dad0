pub mod Founds
pub mod Stands
pub mod ScriptLaws
mod Walks
mod Keeping
mod Listed
mod Heads
mod Divisions
pub mod InputLaws
mod Plays
mod CommandLaws
mod CommandExamples
mod Going
mod Growing
mod Wholes
pub mod Kit
