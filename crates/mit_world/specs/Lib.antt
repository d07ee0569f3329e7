pub mod Outside
pub mod Entries
