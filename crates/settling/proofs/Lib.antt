mod Remaining
mod Filling
mod Moving
mod Noting
pub mod Keeping
