pub mod Find
pub mod Quoting
pub mod Told
pub mod Origins
pub mod Values
pub mod Failing
pub mod Fronts
