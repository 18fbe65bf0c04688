-- The definitions, in reading order.
pub mod Told
pub mod Words
pub mod Origins
