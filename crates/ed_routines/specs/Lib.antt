pub mod Catalogue
pub mod Standing
pub mod Digits
pub mod Returns
