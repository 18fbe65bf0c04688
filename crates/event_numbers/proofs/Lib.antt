pub mod Weights
pub mod Numbered
pub mod Calls
