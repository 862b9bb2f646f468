pub mod ByKey
pub mod ByNumber
pub mod Elements
pub mod Accessed
