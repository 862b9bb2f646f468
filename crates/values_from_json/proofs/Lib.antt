mod Integers
mod Uuids
mod Spaces
mod Times
mod Takes
mod Keys
mod Decimals
mod Only
mod Lacks
mod Plain
mod Wrappers
mod Tokens
mod OldBinary
mod NoLeaf
pub mod Face
