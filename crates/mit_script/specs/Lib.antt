pub mod Trees
pub mod FormedOnce
pub mod PrintsBack
pub mod Accepted
pub mod Grammar
pub mod Reading
pub mod Execution
