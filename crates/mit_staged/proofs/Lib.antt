pub mod PutOrder
pub mod StagedLemmas
