pub mod Without
pub mod Raised
pub mod Ones
pub mod Bounds
pub mod Shares
pub mod Known
