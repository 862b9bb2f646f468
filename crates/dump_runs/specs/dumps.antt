pub mod Ends
pub mod Halting
pub mod Portion
pub mod Run
pub mod Steps
