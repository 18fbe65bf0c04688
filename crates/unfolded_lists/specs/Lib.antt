-- The definitions, in reading order: Calls is what the contracts of the calls say, Puts what stands below them.
pub mod Calls
pub mod Puts
