pub mod Picks
pub mod Codes
pub mod Calls
