pub mod ThinLemmas
pub mod ThinMeans
