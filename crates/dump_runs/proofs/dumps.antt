mod Apart
mod Findings
mod Giving
mod Passing
mod Nexting
mod Lines
mod Choosing
pub mod Ending
