pub mod Places
pub mod Names
pub mod Operands
pub mod Readers
pub mod NameTests
pub mod NameFaults
