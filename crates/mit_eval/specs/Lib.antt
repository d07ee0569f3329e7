pub mod Evaluated
pub mod Evaluation
