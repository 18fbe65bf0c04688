pub mod Elements
pub mod Links
pub mod Reading
pub mod Answers
pub mod Whole
