pub mod Longer
pub mod Chosen
pub mod Superseded
pub mod Sent
pub mod Waiting
