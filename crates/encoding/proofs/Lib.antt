pub mod Standing
pub mod Encoded
pub mod EncodedBytes
