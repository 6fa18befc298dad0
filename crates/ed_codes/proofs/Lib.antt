pub mod Below
pub mod Spellings
pub mod Pieces
pub mod Every
pub mod Readings
