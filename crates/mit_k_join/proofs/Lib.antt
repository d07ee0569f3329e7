pub mod Indexing
pub mod Parts
pub mod Closing
