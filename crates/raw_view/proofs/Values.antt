pub mod Meanings
pub mod ItemSteps
pub mod ItemLoops
