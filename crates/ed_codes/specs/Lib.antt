pub mod Spelling
pub mod Text
pub mod Reading
pub mod Answer
