pub mod Starting
pub mod Ends
