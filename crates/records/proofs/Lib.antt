pub mod Backs
pub mod ByteLists
pub mod Covers
pub mod FieldReads
pub mod FieldWrites
pub mod Filling
pub mod RecordReads
pub mod RoundTrips
