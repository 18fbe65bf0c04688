-- The definitions, in reading order: Places is the text of a listing place by place, Needs what stands below the calls.
pub mod Places
pub mod Needs
