pub mod Runs
pub mod Paths
pub mod Goes
mod Contents
pub mod Inside
pub mod Loads
mod Settled
pub mod Opened
mod Arrivals
pub mod Compared
pub mod Started
pub mod Starts
pub mod Quiet
pub mod Whole
pub mod Walked
pub mod Itemwise
pub mod Trips
pub mod Awaited
pub mod Kit
