pub mod Forms
pub mod Gives
pub mod Parts
pub mod Places
pub mod Runs
pub mod Words
