-- The definitions, in reading order.
pub mod Decided
pub mod Kept
