pub mod Holding
pub mod Receipts
pub mod Steps
