pub mod Guess
pub mod Watching
pub mod Errors
pub mod Endings
pub mod Findings
pub mod Writers
pub mod Headers
