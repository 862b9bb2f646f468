pub mod Fingerprints
pub mod IndexedKeys
pub mod KeyFilter
pub mod KeySets
pub mod References
