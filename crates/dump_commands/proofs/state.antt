pub mod Digesting
mod Missing
mod Ranking
mod Sharing
mod Tabled
mod Prefixes
pub mod Known
