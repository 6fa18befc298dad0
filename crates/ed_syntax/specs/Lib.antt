pub mod Lines
pub mod Parts
pub mod Versions
pub mod Forms
pub mod Sources
pub mod Written
pub mod Reading
pub mod Private
