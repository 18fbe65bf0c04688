pub mod Fired
pub mod Lends
