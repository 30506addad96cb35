pub mod Keyed
pub mod Loading
pub mod Sound
pub mod Tables
pub mod View
pub mod Words
