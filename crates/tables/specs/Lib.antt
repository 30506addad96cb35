pub mod Building
pub mod Tabling
