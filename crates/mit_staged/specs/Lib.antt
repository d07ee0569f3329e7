pub mod Staged
pub mod StoredPuts
