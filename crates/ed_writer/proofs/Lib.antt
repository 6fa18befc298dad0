pub mod Added
pub mod Texts
