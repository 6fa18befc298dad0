-- What the crate's own functions state for each other. No public clause cites these definitions.
pub mod Stages
pub mod ItemTables
pub mod Requests
pub mod Letters
