pub mod Lists
pub mod Events
pub mod Tallies
