mod Filters
mod Running
pub mod Fairness
pub mod Settling
pub mod Walking
mod Parting
pub mod Bounding
pub mod Readying
