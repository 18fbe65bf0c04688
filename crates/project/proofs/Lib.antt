pub mod Located
pub mod Apart
pub mod Steps
pub mod Walks
pub mod Back
pub mod Told
