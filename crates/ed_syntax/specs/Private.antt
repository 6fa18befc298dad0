-- What the crate's own functions state for each other. No public clause cites these definitions, so nobody has to read
-- them to know what the crate answers.
pub mod Names
pub mod Seen
pub mod PartFronts
pub mod LineFronts
pub mod Found
pub mod Answers
