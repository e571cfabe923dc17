pub mod Auctions
pub mod Laws
pub mod Answers
pub mod Steps
