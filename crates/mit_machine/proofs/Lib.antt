-- lists and ranges, and counters
pub mod Lists
pub mod Lengthens
pub mod Raised
-- places of blocks, where operators stand, and what they choose
pub mod Places
pub mod Standing
pub mod Choosing
-- paths and runs
pub mod WholePaths
-- the known path, the front and what is released
pub mod Monotone
pub mod Fronts
pub mod KnownEnds
-- channels
pub mod Offered
pub mod Settling
pub mod Fed
pub mod Channels
-- states
pub mod Validity
pub mod Counting
pub mod Picks
-- progress
pub mod FrontInputs
pub mod Faults
pub mod Offering
pub mod Progress
-- endings
pub mod Found
pub mod Endings
-- what is kept
pub mod Keeping
-- worked states
pub mod Worked
