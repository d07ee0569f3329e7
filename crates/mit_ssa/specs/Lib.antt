pub mod Woven
pub mod PlanFor
pub mod Weaving
pub mod Numbering
pub mod Reaching
