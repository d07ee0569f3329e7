pub mod Tables
pub mod Pieces
pub mod Quotes
pub mod Limits
pub mod Tokens
pub mod Valid
pub mod Written
