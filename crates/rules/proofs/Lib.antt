pub mod Fine
pub mod Made
