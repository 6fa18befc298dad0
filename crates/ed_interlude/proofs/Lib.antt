pub mod Reopened
pub mod Resumed
mod Homes
mod Programs
mod Rows
mod Parting
pub mod Tales
mod Passing
mod Reached
pub mod Runs
pub mod Kit
