mod Naming
pub mod Sending
mod Matching
