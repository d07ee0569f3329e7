pub mod Running
pub mod Stepping
pub mod Gathered
pub mod Typing
