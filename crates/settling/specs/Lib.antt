pub mod Fills
pub mod Conservation
pub mod Steps
