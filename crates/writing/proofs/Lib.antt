pub mod Outputs
pub mod RecordOfRun
pub mod Answers
pub mod RoundTrip
pub mod Examples
