pub mod Choices
pub mod SizeLemmas
