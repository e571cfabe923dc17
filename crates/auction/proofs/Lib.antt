pub mod Balancing
mod Holding
