pub mod Flags
pub mod Products
