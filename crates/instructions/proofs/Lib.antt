mod Changing
pub mod Conserving
