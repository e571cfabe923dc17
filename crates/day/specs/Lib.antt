pub mod Answers
pub mod Texts
pub mod Days
pub mod Laws
pub mod Steps
