pub mod Kit
pub mod InParts
mod Traced
