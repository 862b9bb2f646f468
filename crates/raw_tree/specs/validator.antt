pub mod Breaches
pub mod ValidationSteps
pub mod Violations
