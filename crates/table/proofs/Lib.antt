pub mod Walk
pub mod Decoded
pub mod Ruled
pub mod Sound
pub mod Links
pub mod InOrder
