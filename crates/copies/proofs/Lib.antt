pub mod Ranges
pub mod Where
pub mod Steps
pub mod Ends
