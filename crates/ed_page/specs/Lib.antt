pub mod Answers
pub mod Pictures
pub mod Going
pub mod TapeItems
pub mod Meanings
pub mod PostMortems
pub mod Private
