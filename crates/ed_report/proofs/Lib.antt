pub mod Texts
pub mod Struck
pub mod Letters
mod Columns
pub mod Kit
