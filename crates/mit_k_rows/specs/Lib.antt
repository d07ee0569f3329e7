pub mod RowKinds
pub mod Gives
pub mod Kernels
