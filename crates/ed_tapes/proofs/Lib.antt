pub mod Keeping
pub mod Replies
pub mod Checks
pub mod FirstChecks
pub mod OneOutcome
pub mod Kit
