pub mod Reads
pub mod Picks
pub mod Thin
pub mod Job
pub mod Operators
pub mod Running
