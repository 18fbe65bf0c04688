-- The definitions, in reading order: Losses over a net, Saved what is promised of it, Calls what the contract of the call says, Tests what
-- stands below that.
pub mod Losses
pub mod Saved
pub mod Calls
pub mod Tests
pub mod Examples
