pub mod GroupKinds
pub mod GroupMeaning
pub mod Kept
pub mod OnlyRow
