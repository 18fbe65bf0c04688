pub mod Owning
pub mod Upto
