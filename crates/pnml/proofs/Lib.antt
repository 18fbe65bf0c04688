pub mod Names
pub mod Long
