pub mod Others
pub mod Steps
pub mod Walk
