pub mod Common
pub mod Products
pub mod Shifts
