pub mod State
pub mod Places
pub mod Channels
pub mod Offers
pub mod Moves
pub mod Runs
pub mod Kept
