pub mod NamesOnce
pub mod NamesSingle
