pub mod FrameCount
pub mod Levels
pub mod Reading
pub mod WithinLimits
