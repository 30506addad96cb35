pub mod FiredRows
mod Firings
pub mod Gives
mod ItemParts
mod SlotValues
pub mod Sought
