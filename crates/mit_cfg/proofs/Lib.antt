pub mod Branches
pub mod Ends
pub mod Scripts
pub mod Stands
