pub mod Bagged
pub mod Statements
pub mod Trails
