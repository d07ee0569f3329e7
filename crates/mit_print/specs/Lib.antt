pub mod PrintedTokens
pub mod Printed
