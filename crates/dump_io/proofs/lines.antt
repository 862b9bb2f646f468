pub mod Cases
pub mod Fronts
pub mod Objects
mod Naming
mod Quoted
mod Starting
