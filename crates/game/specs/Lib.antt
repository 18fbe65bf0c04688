-- The definitions, in reading order: Lent and Calls are what the contracts of the calls say, Ready what stands below them.
pub mod Lent
pub mod Calls
pub mod Ready
