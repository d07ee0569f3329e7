pub mod KeyStored
pub mod KeyLaws
pub mod AnswerStored
pub mod Stops
pub mod TotalStored
