mod Levels
mod Steps
mod Lines
pub mod Picked
mod Cutting
mod Had
mod Rowed
mod Lacking
mod Numbering
mod Leaving
mod Bridging
mod Transferring
mod Enclosing
mod Joining
