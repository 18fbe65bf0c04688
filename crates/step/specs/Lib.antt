-- The definitions, in reading order.
pub mod Lent
pub mod Tests
pub mod Steps
