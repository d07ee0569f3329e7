pub mod Slots
pub mod Joins
