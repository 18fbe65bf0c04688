pub mod Worked
pub mod Nets
pub mod Exported
