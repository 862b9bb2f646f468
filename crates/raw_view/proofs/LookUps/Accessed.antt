-- The accessors give the values of their kinds, and nothing for every other kind.
use Rattle.std.proofs.Common.{◌≡◌, ◌≢◌, inl, inr, ℕ, List, Option, Some, None, Result, Ok, Err, refl, sym, ap, ◌∙◌, subst}
use Rattle.raw_view.specs.declared.element_type.ElementType.{ElementType}
use Rattle.raw_view.specs.declared.bson_ref.RawBsonRef.{RawBsonRef}
use Rattle.raw_view.specs.declared.error.Error.{Error}
use Rattle.raw_view.specs.declared.access.ValueAccessError.{ValueAccessError}
use Rattle.raw_view.specs.declared.access.ValueAccessErrorKind.{ValueAccessErrorKind}
use Rattle.raw_view.specs.declared.access.ValueAccessErrorKind.TheVariants as access
use Rattle.raw_view.specs.Meaning.{RawValue, KeyedFault, Meaning, value, faulty}
use Rattle.raw_view.specs.Meaning.Value.{value_of}
use Rattle.raw_view.specs.Errors.Answers.{Says, TellsFound}
use Rattle.raw_view.specs.Errors.Access.{IsNoValueOf, IsAccessFault, CarriesKeyAsked, IsTypedFault, Accesses, Gets}

-- from what the look-up returns to what the getter promises
module _ {T : Type 0} (value_as : T → RawValue) (expected : ElementType) where
  found_is : (answer : Result (Option RawBsonRef) Error) (found : Option Meaning) (v : RawBsonRef) → TellsFound answer found → answer ≡ Ok (Some v) → found ≡ Some (value (value_of v))
  found_is answer found v tells e = subst (λ (x : Result (Option RawBsonRef) Error). TellsFound x found) e tells

  inner_fault : (e : Error) (found : Option Meaning) → TellsFound (Err e) found → (fault : KeyedFault) × (found ≡ Some (faulty fault)) × Says e fault
  inner_fault e None tells = absurd tells
  inner_fault e (Some (value v)) tells = absurd tells
  inner_fault e (Some (faulty fault)) tells = (fault, refl, tells)

  fault_at : (answer : Result (Option RawBsonRef) Error) (found : Option Meaning) (e : Error) → TellsFound answer found → answer ≡ Err e
      → (fault : KeyedFault) × (found ≡ Some (faulty fault)) × Says e fault
  fault_at answer found e tells is = inner_fault e found (subst (λ (x : Result (Option RawBsonRef) Error). TellsFound x found) is tells)

  no_value : (answer : Result (Option RawBsonRef) Error) (found : Option Meaning) (k : ValueAccessErrorKind) → TellsFound answer found → IsTypedFault expected answer k → IsNoValueOf expected found
  no_value answer found access.NotPresent tells h = subst (IsNoValueOf expected) (sym (subst (λ (x : Result (Option RawBsonRef) Error). TellsFound x found) h tells)) tt
  no_value answer found (access.UnexpectedType wanted actual) tells h = subst (IsNoValueOf expected) (sym (found_is answer found h.0 tells h.1)) h.2
  no_value answer found (access.InvalidBson inner) tells h = let f = fault_at answer found inner tells h.0 in subst (IsNoValueOf expected) (sym f.1) tt
  no_value answer found access.OutOfMemory tells h = let f = fault_at answer found h.0 tells h.1 in subst (IsNoValueOf expected) (sym f.1) tt

  access_fault : (answer : Result (Option RawBsonRef) Error) (found : Option Meaning) (k : ValueAccessErrorKind) → TellsFound answer found
      → IsTypedFault expected answer k → k ≢ access.OutOfMemory → IsAccessFault expected found k
  access_fault answer found access.NotPresent tells h memory = subst (λ (x : Result (Option RawBsonRef) Error). TellsFound x found) h tells
  access_fault answer found (access.UnexpectedType wanted actual) tells h memory = (value_of h.0, found_is answer found h.0 tells h.1, h.3, h.4)
  access_fault answer found (access.InvalidBson inner) tells h memory = let f = fault_at answer found inner tells h.0 in (f.0, f.1, (f.2, h.1))
  access_fault answer found access.OutOfMemory tells h memory = absurd (memory refl)

  pub gets : (key : List ℕ) (answer : Result (Option RawBsonRef) Error) (found : Option Meaning) (r : Result T ValueAccessError) → TellsFound answer found
      → Accesses value_as expected key answer r → Gets value_as expected key found r
  gets key answer found (Ok x) tells h = found_is answer found h.0 tells h.1 ∙ ap (λ w. Some (value w)) h.2
  gets key answer found (Err e) tells h = (
    no_value answer found h.0 tells h.1,
    elim h.2 as (λ _. CarriesKeyAsked (IsAccessFault expected found) key e) [
      | inl a ↦ inl (access_fault answer found e.kind tells (subst (IsTypedFault expected answer) (sym a.0.0) h.1) a.0.1, a.1)
      | inr a ↦ inr a
    ],
  )
