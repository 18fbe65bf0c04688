-- The laws of steps, on words and on bytes.
pub mod Lists
pub mod Bytes
pub mod Tests
pub mod Firing
