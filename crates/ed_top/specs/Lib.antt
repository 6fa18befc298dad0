pub mod Scripts
pub mod Calls
pub mod Demos
pub mod Output
pub mod Complete
pub mod Private
