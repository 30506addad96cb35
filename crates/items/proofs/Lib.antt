pub mod Ascending
pub mod Found
pub mod Kept
pub mod Names
pub mod Next
pub mod Orders
pub mod Rules
