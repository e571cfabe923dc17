pub mod PreCalls
pub mod Freezes
pub mod Matches
pub mod Steps
