-- What the crate's own functions state for each other. No public clause cites these definitions, so nobody has to read
-- them to know what the program answers.
pub mod Rows
