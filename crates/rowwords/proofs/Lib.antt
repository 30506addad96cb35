pub mod PatternSteps
