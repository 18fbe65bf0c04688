-- The definitions, in reading order.
pub mod Later
pub mod Own
