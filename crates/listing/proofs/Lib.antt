mod AllNames
mod HeldWalks
pub mod Lists
mod Subsets
