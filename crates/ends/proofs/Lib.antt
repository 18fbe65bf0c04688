-- The laws: what is written of an unfolded marking, then the two calls.
pub mod Written
pub mod Answers
