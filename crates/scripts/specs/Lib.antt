pub mod Decimals
pub mod Hexadecimals
pub mod Lines
pub mod Meanings
pub mod Postings
pub mod Scripts
