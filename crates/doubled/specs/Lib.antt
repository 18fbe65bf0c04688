-- What a reader must believe of the net that is exported, in reading order; 02 is the document of change requests, by number.
pub mod Plain
pub mod Doubling
