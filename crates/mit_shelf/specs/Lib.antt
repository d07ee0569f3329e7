pub mod Refused
pub mod Stops
pub mod Shelf
pub mod Stored
pub mod Adding
pub mod Staging
