pub mod Places
pub mod Owners
pub mod Numbered
pub mod Calls
