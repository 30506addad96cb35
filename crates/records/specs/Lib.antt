pub mod Fields
pub mod Reader
pub mod Record
pub mod RoundTrip
pub mod Writer
pub mod Texts
