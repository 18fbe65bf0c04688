-- The definitions, in reading order.
pub mod Walk
pub mod Decoded
pub mod Tabled
pub mod Links
pub mod InOrder
