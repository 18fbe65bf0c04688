-- The laws, from bits up to words, and of what is written from words.
pub mod Bits
pub mod Words
pub mod Copying
