-- The definitions, in reading order: Text is how the listing is written, Calls what the contracts of the calls say, Whole the listing
-- of two files.
pub mod Text
pub mod Calls
pub mod Whole
