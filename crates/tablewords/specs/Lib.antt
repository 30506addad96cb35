pub mod States
pub mod TableLines
