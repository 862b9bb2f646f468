pub mod Bytes
pub mod Frames
pub mod Values
pub mod LookUps
pub mod Unique
pub mod Face
