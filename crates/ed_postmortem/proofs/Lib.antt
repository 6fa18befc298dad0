pub mod Digits
pub mod Paths
pub mod Stops
pub mod Entry
pub mod Bounds
pub mod Needed
pub mod Lists
pub mod Whole
mod AddressDigits
pub mod Kit
