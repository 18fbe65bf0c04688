-- The laws, from how long the texts are up to the theorem that all of them together are the listing.
pub mod Long
pub mod Writing
pub mod Whole
pub mod Rest
pub mod Ready
pub mod Listing
