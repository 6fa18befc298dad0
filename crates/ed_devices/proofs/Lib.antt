pub mod FirstParts
pub mod Kit
pub mod Writing
pub mod Endings
