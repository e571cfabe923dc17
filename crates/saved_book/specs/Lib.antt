pub mod Faults
pub mod Encoding
pub mod Decoding
pub mod Calls
pub mod Meaning
pub mod Steps
pub mod Texts
