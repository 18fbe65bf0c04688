-- The laws, from the lent marking up to the calls.
pub mod Above
pub mod Marked
pub mod Found
