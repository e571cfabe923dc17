pub mod Answering
pub mod Checking
pub mod Stepping
