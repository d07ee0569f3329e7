pub mod ThinScript
pub mod ThinEndings
