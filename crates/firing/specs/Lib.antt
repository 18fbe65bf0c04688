-- The definitions, in reading order: Calls is what the contract of the call says, Steps what stands below it.
pub mod Calls
pub mod Steps
