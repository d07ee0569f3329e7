pub mod Choice
pub mod Last
pub mod Fate
pub mod Views
