pub mod Balancing
mod Joining
mod Turns
mod Releases
