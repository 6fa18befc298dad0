pub mod Counts
pub mod Images
pub mod Keeping
pub mod LeastNumbers
pub mod SoundSteps
pub mod Steps
pub mod Kit
pub mod Names
