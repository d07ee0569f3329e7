pub mod ValueOrder
pub mod Rising
pub mod BagOrder
pub mod MergeFacts
