pub mod Counts
pub mod Scopes
pub mod Sets
