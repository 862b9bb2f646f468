pub mod Pieces
pub mod Resync
pub mod Charge
pub mod Searches
pub mod Seeking
