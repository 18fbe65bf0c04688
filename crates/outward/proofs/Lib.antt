-- The laws.
pub mod Markers
pub mod Small
