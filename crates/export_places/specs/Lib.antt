-- The definitions, in reading order: Places is where an export stands, Needs what the functions over it need and leave.
pub mod Places
pub mod Needs
