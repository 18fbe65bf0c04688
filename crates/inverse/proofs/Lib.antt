-- Each module stands on those above it.
pub mod Prefix
pub mod Conditions
pub mod Colours
pub mod Numbers
pub mod Events
