-- What a caller knows if a validation within limits didn't return `Ok(None)`: the document isn't canonical within them.
use Rattle.std.proofs.Common.{◌≡◌, ℕ, List, Option, Some, Ok, Err}
use Rattle.raw_tree.proofs.Common.{Limits}
use Rattle.raw_tree.proofs.walk.Common.{AllAreValidatedOneWayWithin, IsCanonicalWithin, Place, PlacedBreach, TellsViolation, ValidateError}
use Rattle.raw_tree.specs.declared.validator.within.ValidateError.TheVariants as error

module _ {limits : Limits} (b : List ℕ) where
  -- because of a breach
  pub breach_not_canonical : {o : Option PlacedBreach} {breach : PlacedBreach} → AllAreValidatedOneWayWithin limits → TellsViolation limits b (Ok o) → o ≡ Some breach
      → ¬ IsCanonicalWithin limits b
  breach_not_canonical one told is = (one b).not_both _ _ _ (rw is at told)

  -- because of a level that is too deep
  pub too_deep_not_canonical : {e : ValidateError} {place : Place} → AllAreValidatedOneWayWithin limits → TellsViolation limits b (Err e) → e ≡ error.TooDeep place
      → ¬ IsCanonicalWithin limits b
  too_deep_not_canonical one told is = (one b).not_both _ _ _ (rw is at told)
