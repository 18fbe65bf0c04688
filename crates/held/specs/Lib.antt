-- The definitions.
pub mod Held
