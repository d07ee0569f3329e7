pub mod Grouping
pub mod Making
pub mod Fitting
pub mod Indexing
pub mod Matching
pub mod Pairing
