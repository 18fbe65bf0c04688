-- The definitions, in reading order.
pub mod Weights
pub mod Answers
