-- The laws of the vocabulary of lists.
pub mod Bools
pub mod Members
pub mod Tests
pub mod Places
pub mod Positions
pub mod Products
pub mod Stored
pub mod Distinct
pub mod Lowest
pub mod Library
