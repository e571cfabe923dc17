pub mod Faults
pub mod Fields
pub mod Grammar
pub mod Texts
pub mod Laws
pub mod Steps
pub mod Passing
