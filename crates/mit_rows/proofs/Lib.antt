pub mod DigitFacts
pub mod FrontFacts
