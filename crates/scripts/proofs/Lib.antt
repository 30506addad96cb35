pub mod DigitSteps
pub mod HexSteps
