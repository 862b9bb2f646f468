-- What a caller knows of a look-up: there is one result, and what a getter or a question says is about that result.
use Rattle.std.proofs.Common.{◌≡◌, ◌≢◌, ◌⊎◌, ◌∙◌, ℕ, List, ap, sym, subst, inl, inr, Option, Some, Result, Ok, Err}
use Rattle.std.specs.Prelude.{option_map}
use Rattle.raw_view.specs.Errors.Access.{GetsByKey, IsNoValueOf}
use Rattle.raw_view.specs.LookUp.{LooksUp}
use Rattle.raw_view.specs.Meaning.{RawValue, KeyedFault, Meaning, value, faulty, kind_of_raw}
use Rattle.raw_view.specs.declared.access.ValueAccessError.{ValueAccessError}
use Rattle.raw_view.specs.declared.element_type.ElementType.{ElementType}
use Rattle.raw_view.specs.declared.error.Error.{Error}
use Rattle.raw_view.proofs.Face.{one_look_up}
use Rattle.raw_bson.specs.EachItem.{AsksUnder, WrapsFault}

-- getters

other_kind : (kind : ElementType) (v : RawValue) (there : Option Meaning) → IsNoValueOf kind there → there ≡ Some (value v) → kind_of_raw v ≢ kind
other_kind kind v there h is = subst (IsNoValueOf kind) is h

module _ {T : Type 0} (value_as : T → RawValue) (kind : ElementType) {b key : List ℕ} where
  -- the value that was returned is what a look-up finds
  pub GetsByKey-found : (x : T) → GetsByKey value_as kind b key (Ok x) → LooksUp b key (Some (value (value_as x)))
  GetsByKey-found x h = subst (LooksUp b key) h.2 h.1

  -- if no value was returned, a look-up finds none of the kind
  pub GetsByKey-none : (e : ValueAccessError) → GetsByKey value_as kind b key (Err e) → (v : RawValue) → LooksUp b key (Some (value v)) → kind_of_raw v ≢ kind
  GetsByKey-none e h v there = other_kind kind v h.0 h.2.0 (one_look_up h.1 there)

-- questions

module _ {T E : Type 0} {wrap : Error → E} {Answers : Option RawValue → Result T E → Type 0} {b key : List ℕ} {r : Result T E} where
  -- Ok was returned of what was found
  pub AsksUnder-ok : {x : T} → AsksUnder wrap Answers b key r → r ≡ Ok x → (found : Option RawValue) × LooksUp b key (option_map value found) × Answers found (Ok x)
  AsksUnder-ok h was = elim h.told [ inl t ↦ (t.0, t.1, subst (Answers t.0) was t.2) | inr f ↦ absurd (let a = was in let b = f.4 in cc) ]

  -- an error was returned for what was found; or a fault was found, which the error says
  pub AsksUnder-error : {e : E} → AsksUnder wrap Answers b key r → r ≡ Err e
      → ((found : Option RawValue) × LooksUp b key (option_map value found) × Answers found (Err e))
      ⊎ ((fault : KeyedFault) × LooksUp b key (Some (faulty fault)) × WrapsFault wrap fault e)
  AsksUnder-error h was = elim h.told [
    | inl t ↦ inl (t.0, t.1, subst (Answers t.0) was t.2)
    | inr f ↦ inr (f.0, f.1, subst (WrapsFault wrap f.0) (let a = was in let b = f.4 in cc) f.3)
  ]
