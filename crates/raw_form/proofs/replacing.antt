pub mod Chain
pub mod Levels
pub mod Lossless
pub mod Sound
