pub mod Sides
pub mod Pairs
pub mod Again
pub mod Lines
pub mod Numbering
