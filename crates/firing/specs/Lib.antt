pub mod At
pub mod Effects
