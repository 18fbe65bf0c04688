-- The vocabulary of lists.
pub mod Lists
