pub mod Outcome
pub mod Answer
pub mod Runs
pub mod Tapes
pub mod FirstOrders
pub mod Replies
