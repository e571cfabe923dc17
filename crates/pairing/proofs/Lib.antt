pub mod Joining
pub mod Wanting
pub mod Serving
pub mod Adding
mod Turning
pub mod Flipping
pub mod Fronting
mod Queueing
