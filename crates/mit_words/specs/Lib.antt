pub mod Words
pub mod Stepped
