pub mod Devices
pub mod Stages
pub mod Ends
