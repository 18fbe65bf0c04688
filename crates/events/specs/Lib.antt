-- The definitions, in reading order.
pub mod Colours
pub mod Numbers
pub mod Answers
