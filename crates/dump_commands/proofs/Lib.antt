pub mod Repeating
pub mod Emitting
mod Listed
mod Rowing
mod Gathers
mod Endings
pub mod Face
mod Rereading
mod Pairing
mod Twinning
mod Telling
