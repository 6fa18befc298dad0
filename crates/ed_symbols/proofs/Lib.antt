mod Least
pub mod Sentences
pub mod NamingSentences
pub mod AgainSentences
pub mod LeastFaults
pub mod FaultPasses
pub mod NameLaw
pub mod Kit
