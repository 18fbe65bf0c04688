-- What the contract of the call says, and what stands below it.
pub mod Opening
