pub mod Priority
pub mod Queues
pub mod Pairs
pub mod Answers
pub mod Laws
pub mod Steps
pub mod Ranking
