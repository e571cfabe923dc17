mod Turning
pub mod Records
pub mod Sealing
pub mod Delaying
pub mod Conserving
mod Entering
mod Waiting
mod Carrying
mod Meeting
mod Lifting
mod Siding
