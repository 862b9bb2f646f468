-- Bytes are canonical or have one first breach, and never both. A document has at most one violation within limits, at one place.
use Rattle.std.proofs.Common.{◌≡◌, ◌⊎◌, inl, inr, ◌<◌, ◌+◌, ℕ, suc, List, None, Some, map, length, ap, refl, sym, ◌∙◌, arith}
use Rattle.raw_tree.proofs.Common.{Cause, HasBreachAs, IsCanonicalAs, IsEnvelope, IsValidatedOneWay, Limits, Sort, as_document, max_length}
use Rattle.raw_tree.proofs.walk.Common.{AllAreValidatedOneWayWithin, FirstViolationTo, Found, Step, TellsFound, breach_of, steps_of, violations}
use Rattle.raw_tree.specs.validator.Violations.{too_deep}
use Rattle.raw_tree.proofs.Returns.{canonical_up_to}
use Rattle.raw_tree.proofs.validator.EitherWay.{IsEither, either_to}
use Rattle.raw_tree.proofs.validator.OneViolation.{breach_deeper, never_deep, violation_apart, violations_unique}
use Rattle.raw_tree.proofs.walk.First.{deep_long, one_first}

abbrev pub numbers : List Step → List ℕ
numbers steps = map (λ (step : Step). step.number) steps

module _ (sort : Sort) (b : List ℕ) where
  -- no level is deeper than the number of bytes
  breach_of_either : (n : ℕ) → length b < n → IsEither n sort b → IsCanonicalAs sort b ⊎ ((path : List ℕ) × (why : Cause) × HasBreachAs sort b path why)
  breach_of_either n more (inl canonical) = inl (n, canonical)
  breach_of_either n more (inr (too_deep, path, offset, h)) = absurd (omega (arith, more, deep_long violations never_deep n sort b path offset h))
  breach_of_either n more (inr (breach_of why, path, offset, h)) = inr (numbers path, why, (n, path, offset, h, refl))

  breach_not_canonical : (path : List ℕ) (why : Cause) → HasBreachAs sort b path why → ¬ IsCanonicalAs sort b
  breach_not_canonical path why (n, steps, offset, h, same) (m, c) =
      violation_apart (n + m) sort b (breach_of why) steps offset (breach_deeper n (n + m) (omega arith) sort b why steps offset h) (canonical_up_to m (n + m) (omega arith) sort b c)

  one_breach : (path other : List ℕ) (why cause : Cause) → HasBreachAs sort b path why → HasBreachAs sort b other cause → (other ≡ path) × (cause ≡ why)
  one_breach path other why cause (n, steps, offset, h, same) (m, others, at, g, also) =
      let (why_is, steps_is, offset_is) = one_first violations_unique (n + m) sort b (breach_of why) (breach_of cause) steps others offset at
      (breach_deeper n (n + m) (omega arith) sort b why steps offset h) (breach_deeper m (n + m) (omega arith) sort b cause others at g) in
      (also ∙ ap numbers steps_is ∙ sym same, cc)

pub validated_one_way : (sort : Sort) (b : List ℕ) → IsEnvelope b → IsValidatedOneWay sort b
validated_one_way sort b env = record {
  either = breach_of_either sort b (suc (length b)) (omega arith) (either_to (suc (length b)) sort b env);
  not_both = breach_not_canonical sort b;
  one_breach = one_breach sort b;
}

-- within limits
pub validated_one_way_within : (limits : Limits) → AllAreValidatedOneWayWithin limits
validated_one_way_within limits b = record {
  not_both = λ x path offset h c. violation_apart limits.depth as_document b x path offset h.1 c.1;
  one_violation = λ x other path other_path offset at h g. one_first violations_unique limits.depth as_document b x other path other_path offset at h.1 g.1;
  first_breach = λ why path offset h. (limits.depth, path, offset, h.1, refl);
}

-- what is found within a depth that no document reaches

-- the greatest depth that there is
abbrev pub most : ℕ
most = 18446744073709551615

module _ (n : ℕ) (b : List ℕ) where
  -- a breach, and no level that is too deep
  pub never_too_deep : (found : Found) → IsEnvelope b → max_length < n → TellsFound n b (Some found) → found.cause ≡ None → ⊥
  never_too_deep found env more h none =
      let deep : FirstViolationTo n as_document b too_deep (steps_of found.place) found.place.offset = rw none at h in
      omega (arith, more, env.header.fits, deep_long violations never_deep n as_document b (steps_of found.place) found.place.offset deep)

  pub breach_found : (found : Found) (why : Cause) → TellsFound n b (Some found) → found.cause ≡ Some why → HasBreachAs as_document b (numbers (steps_of found.place)) why
  breach_found found why h is = (n, steps_of found.place, found.place.offset, rw is at h, refl)
