-- The laws, from the index up to a run and its end.
pub mod Starts
pub mod Moving
pub mod Playing
pub mod Begun
