pub mod Lists
pub mod Calls
pub mod Figures
