mod Paths
mod Rests
pub mod Walks
pub mod Settled
pub mod Started
pub mod Opened
pub mod Whole
mod Reading
pub mod Unique
mod Loop
pub mod Awaited
pub mod Kit
