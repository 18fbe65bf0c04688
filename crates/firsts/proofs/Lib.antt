pub mod Marking
pub mod Along
pub mod Walking
