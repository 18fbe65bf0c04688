-- The definitions, in reading order.
pub mod Copies
pub mod Writing
