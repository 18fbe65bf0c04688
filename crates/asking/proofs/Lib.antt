-- The laws of what is asked for.
pub mod Listed
