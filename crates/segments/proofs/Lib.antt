pub mod Places
pub mod Having
pub mod Spans
pub mod Copied
pub mod Chosen
pub mod Segmented
pub mod Ranged
pub mod Listed
