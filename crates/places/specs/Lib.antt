-- The definitions, in reading order.
pub mod Places
pub mod Numbers
