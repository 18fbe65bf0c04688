-- The definitions, in reading order: Elements is what stands in an exported net and in which order, Text its bytes, Needs what bounds them.
pub mod Elements
pub mod Text
pub mod Needs
