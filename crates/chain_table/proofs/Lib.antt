pub mod Indices
pub mod Walks
pub mod Intact
mod Spots
mod Rests
mod Seeks
mod Writes
mod Moves
mod Tables
