pub mod Replacing
pub mod ReplacingSteps
pub mod Staying
pub mod Rewriting
pub mod Forms
pub mod FormsWithin
pub mod Tokens
pub mod Flattening
pub mod CodeLens
-- definitions of raw_tree that are passed on
pub use Rattle.raw_tree.specs.Barriers
pub use Rattle.raw_tree.specs.Looking
pub use Rattle.raw_tree.specs.Places
pub use Rattle.raw_tree.specs.Violations
pub use Rattle.raw_tree.specs.Walks
-- types of raw_tree that clauses mention
pub use Rattle.raw_tree.specs.declared.walk.barrier.Barrier
pub use Rattle.raw_tree.specs.declared.walk.barrier.BarrierKind
pub use Rattle.raw_form.specs.declared.flatten.FlattenError
pub use Rattle.raw_tree.specs.declared.walk.place.PathStep
pub use Rattle.raw_tree.specs.declared.walk.place.Place
pub use Rattle.raw_form.specs.declared.token.Token
pub use Rattle.raw_tree.specs.declared.validator.within.PlacedBreach
pub use Rattle.raw_tree.specs.declared.validator.within.ValidateError
