pub mod Sides
pub mod Parts
pub mod Laid
pub mod Exported
pub mod Counts
pub mod Opened
pub mod Owners
