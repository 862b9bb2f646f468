pub mod AsciiLanes
pub mod NulSearch
pub mod PlainLanes
pub mod Numbers
pub mod Texts
pub mod DecidedTexts
pub mod Cuts
pub mod Headers
