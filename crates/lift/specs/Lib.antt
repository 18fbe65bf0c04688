-- The definitions, in reading order: Calls is what the contract of the call says, Played what stands below it.
pub mod Calls
pub mod Played
