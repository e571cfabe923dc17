pub mod Quotes
pub mod Stops
pub mod Depth
pub mod Price
pub mod Answers
pub mod Law
pub mod Examples
pub mod Steps
