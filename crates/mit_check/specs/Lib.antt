pub mod Bags
pub mod Tells
pub mod Trails
