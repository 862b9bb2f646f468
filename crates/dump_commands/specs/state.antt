pub mod Forms
pub mod Fields
pub mod Measures
pub mod Seen
pub mod Gathered
