pub mod Left
pub mod Texts
pub mod Depths
pub mod Placed
pub mod Levels
pub mod Ends
-- definitions of single values, for those who list only this crate
pub use Rattle.values_from_json.specs.DecimalTexts
pub use Rattle.values_from_json.specs.Digits
pub use Rattle.values_from_json.specs.Keys
pub use Rattle.values_from_json.specs.Meaning
pub use Rattle.values_from_json.specs.Numbers
pub use Rattle.values_from_json.specs.Place
pub use Rattle.values_from_json.specs.Reasons
pub use Rattle.values_from_json.specs.Times
pub use Rattle.values_from_json.specs.Wrapped
-- their types that clauses mention
pub use Rattle.values_from_json.specs.declared.error.JsonError
pub use Rattle.values_from_json.specs.declared.error.JsonReason
pub use Rattle.values_from_json.specs.declared.wrapper.Wrapper
