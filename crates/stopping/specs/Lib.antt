-- The definitions, in reading order: Causes is what stops a step of either net, Table and Unfolded the same of each.
pub mod Causes
pub mod Table
pub mod Unfolded
