pub mod Order
pub mod Bags
pub mod Stored
pub mod Integers
