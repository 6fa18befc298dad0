pub mod Causes
pub mod Meaning
pub mod NameBytes
pub mod NameTexts
pub mod Kit
