pub mod Words
pub mod Signed
pub mod Sizes
pub mod Texts
pub mod Decimals
