pub mod Few
pub mod Fine
pub mod Made
