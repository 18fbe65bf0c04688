pub mod Found
pub mod Tests
