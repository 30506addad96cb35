pub mod Loads
pub mod Loops
pub mod Present
pub mod RowCells
