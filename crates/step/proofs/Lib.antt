pub mod Counting
mod OwnFields
mod Scoped
pub mod SetSizes
pub mod SetSteps
mod Skips
mod Walks
mod Whole
