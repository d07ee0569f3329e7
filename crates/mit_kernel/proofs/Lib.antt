pub mod Lists
pub mod Captures
