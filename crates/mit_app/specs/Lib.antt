pub mod Lines
pub mod Statuses
pub mod Due
pub mod Answers
pub mod Ends
