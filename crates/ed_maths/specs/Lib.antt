pub mod Quotients
pub mod Roots
