-- The definitions, in reading order.
pub mod Tables
pub mod Lines
