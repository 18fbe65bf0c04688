-- The definitions, in reading order.
pub mod Origins
pub mod Owners
