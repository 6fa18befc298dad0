-- The kit of paths: how a piece of EDSAC code is proved, order by order, at any base.
pub mod Frames
pub mod Leads
pub mod Loops
pub mod Moves
pub mod Newline
pub mod Orders
pub mod Paths
pub mod Places
pub mod Shifts
pub mod Standing
pub mod Sums
pub mod Window
pub mod Zeros
