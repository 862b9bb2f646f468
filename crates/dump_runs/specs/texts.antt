pub mod Faults
pub mod Reading
pub mod Run
pub mod Steps
