pub mod Names
pub mod PaddedNames
pub mod Programs
pub mod Causes
