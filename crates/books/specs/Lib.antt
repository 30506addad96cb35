pub mod Batches
pub mod Bounds
pub mod Days
pub mod Ends
pub mod Opens
pub mod Puts
pub mod View
