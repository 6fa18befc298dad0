pub mod Returned
pub mod Parts
pub mod Laws
pub mod Private
