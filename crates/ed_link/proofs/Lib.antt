mod Causes
mod Steps
pub mod Spellable
pub mod Texts
pub mod Costs
pub mod Passes
pub mod Orders
pub mod Uses
pub mod Lines
pub mod Closed
pub mod Spelled
pub mod Inductions
pub mod Accepted
pub mod Lengths
pub mod Places
pub mod UseWords
pub mod Bounds
pub mod LineLoop
pub mod Loops
pub mod Maps
pub mod Finished
pub mod Extents
pub mod FaultSentences
pub mod SettingSentences
pub mod LineFaults
pub mod FaultLaw
pub mod WordLaws
pub mod Kit
