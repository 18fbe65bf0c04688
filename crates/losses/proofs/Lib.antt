-- The laws, in the order in which they build on each other; Saved is the theorem, which no code needs.
pub mod Steps
pub mod Walk
pub mod Answers
pub mod Saved
pub mod Examples
pub mod Lost
