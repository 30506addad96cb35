pub mod ByBytes
pub mod Positions
