pub mod Refusals
pub mod EntryState
pub mod EntryWords
pub mod Sources
pub mod Headline
pub mod FromEntry
pub mod BothSizes
