pub mod Held
pub mod Lines
pub mod Conditions
pub mod Answers
pub mod Examples
