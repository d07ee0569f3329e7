pub mod KeySteps
pub mod EachRows
pub mod Totals
