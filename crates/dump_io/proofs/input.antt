mod Filling
pub mod Ahead
pub mod Going
pub mod Skipping
pub mod Deciding
pub mod Between
pub mod Outlines
pub mod Placing
mod Scanning
pub mod Portioning
