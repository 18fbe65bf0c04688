-- The definitions, in reading order: Decimal is how a number is written, Puts what the functions need and leave.
pub mod Decimal
pub mod Puts
