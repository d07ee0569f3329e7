pub mod Files
pub mod Names
pub mod Rows
pub mod Printed
