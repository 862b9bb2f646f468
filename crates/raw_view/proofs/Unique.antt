pub mod Walks
pub mod Payloads
pub mod Reasons
pub mod Meanings
pub mod Items
pub mod LookUps
