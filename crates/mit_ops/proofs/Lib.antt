pub mod BagTypes
