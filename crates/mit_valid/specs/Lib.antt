pub mod Deciding
pub mod Jumping
pub mod Searched
pub mod Passed
pub mod Inferred
