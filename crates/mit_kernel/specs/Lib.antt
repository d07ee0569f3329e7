pub mod Meaning
pub mod Finishing
