pub mod Encoding
pub mod Members
