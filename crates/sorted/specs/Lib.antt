pub mod Meaning
pub mod Place
