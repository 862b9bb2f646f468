pub mod Frame
pub mod Meaning
pub mod Errors
pub mod Document
pub mod LookUp
pub mod OneReading
