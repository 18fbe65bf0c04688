pub mod Orders
pub mod Named
pub mod Decision
pub mod Places
pub mod Tests
