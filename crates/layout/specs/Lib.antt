-- The definitions, in reading order.
pub mod Counts
pub mod Unfolds
pub mod Laid
