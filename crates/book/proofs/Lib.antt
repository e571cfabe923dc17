pub mod General
pub mod Laws
pub mod Reading
