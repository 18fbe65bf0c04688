-- The definitions, in reading order.
pub mod Markers
pub mod Numbers
