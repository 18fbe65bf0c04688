pub mod Later
pub mod Settled
pub mod Written
pub mod Answers
