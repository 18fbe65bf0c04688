pub mod Ranging
pub mod Rules
pub mod Tested
