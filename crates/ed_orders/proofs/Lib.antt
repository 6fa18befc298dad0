pub mod KindLetters
pub mod Letters
pub mod Numerals
pub mod Shifts
pub mod Kit
