-- The definitions, in reading order.
pub mod Firsts
pub mod Walks
