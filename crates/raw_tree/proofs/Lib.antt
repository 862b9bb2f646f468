pub mod CanonicalForms
pub mod Common
pub mod Face
pub mod Forms
pub mod Laws
pub mod Returns
pub mod Spelled
