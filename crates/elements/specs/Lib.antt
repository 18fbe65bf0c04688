-- The definitions, in reading order: Calls is what the contracts of the calls say, Whole the text of a whole export, Needs what stands
-- below the calls.
pub mod Calls
pub mod Whole
pub mod Needs
