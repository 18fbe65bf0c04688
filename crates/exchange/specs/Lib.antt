-- The definitions, in reading order: Calls is what the contracts of the calls say, Played what stands below them.
pub mod Calls
pub mod Played
