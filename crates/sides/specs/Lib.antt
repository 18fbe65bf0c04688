-- The definitions, in reading order: Sides is what the contract of lay_side says, Shares what stands below it.
pub mod Sides
pub mod Shares
