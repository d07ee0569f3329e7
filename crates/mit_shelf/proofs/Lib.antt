pub mod NameFacts
pub mod FieldFacts
pub mod ParseFacts
pub mod RecordFacts
pub mod RowFacts
pub mod PrintFacts
pub mod ShelfLemmas
pub mod StagingLemmas
