pub mod LexedRuns
pub mod Loops
pub mod NameBounds
pub mod Numbering
pub mod Refusals
pub mod ShortRuns
pub mod OneReading
