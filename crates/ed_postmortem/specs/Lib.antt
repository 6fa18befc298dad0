pub mod Codes
pub mod Tape
pub mod Answers
