pub mod HeldSlots
pub mod Numbers
