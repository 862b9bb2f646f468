mod Advancing
mod Words
mod Whole
mod Parts
mod Gaps
mod Becoming
pub mod Passing
