pub mod Asking
pub mod Shown
pub mod Told
