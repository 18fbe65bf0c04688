pub mod Counting
pub mod Joined
