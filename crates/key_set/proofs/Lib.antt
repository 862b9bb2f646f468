pub mod DistinctKeys
pub mod Face
pub mod Fingerprinting
pub mod KeyOrder
pub mod KeyPlaces
pub mod KeySets
pub mod References
