-- Typed access: what a getter returns for what a look-up finds.
use Rattle.std.specs.Prelude.{◌≡◌, ◌≢◌, ◌⊎◌, ℕ, List, [], Option, None, Some, Result, Ok, Err, decimal}
use Rattle.std.specs.String.{string_bytes}
use Rattle.raw_view.specs.declared.element_type.ElementType.{ElementType}
use Rattle.raw_view.specs.declared.error.Error.{Error}
use Rattle.raw_view.specs.declared.error.ErrorKind.TheVariants as what
use Rattle.raw_view.specs.declared.access.ValueAccessError.{ValueAccessError}
use Rattle.raw_view.specs.declared.access.ValueAccessErrorKind.{ValueAccessErrorKind}
use Rattle.raw_view.specs.declared.access.ValueAccessErrorKind.TheVariants as access
use Rattle.raw_view.specs.Meaning.{RawValue, kind_of_raw, KeyedFault, Meaning, value, faulty}
use Rattle.raw_view.specs.Errors.Answers.{Says}
use Rattle.raw_view.specs.Errors.{IsSameError}
use Rattle.raw_view.specs.LookUp.{LooksUp, IsAt}
use Rattle.raw_view.specs.Meaning.Value.{value_of}
use Rattle.raw_view.specs.declared.bson_ref.RawBsonRef.{RawBsonRef}

-- the key that an access error carries: the one that was asked for, or the empty key if memory ran out
abbrev pub key_asked : ValueAccessError → List ℕ
key_asked e = string_bytes e.key

-- two equal reasons why there is no value
abbrev pub IsSameAccess : ValueAccessErrorKind → ValueAccessErrorKind → Type 0
IsSameAccess (access.InvalidBson s) (access.InvalidBson t) = IsSameError s t
IsSameAccess s t = t ≡ s

-- the error says a fault, and isn't out of memory
abbrev pub SaysInner : Error → KeyedFault → Type 0
SaysInner inner fault = Says inner fault × (inner.kind ≢ what.OutOfMemory)

-- what was found is no value of the kind
abbrev pub IsNoValueOf : ElementType → Option Meaning → Type 0
IsNoValueOf kind None = Unit {0}
IsNoValueOf kind (Some (value v)) = kind_of_raw v ≢ kind
IsNoValueOf kind (Some (faulty fault)) = Unit {0}

-- Why a getter for this kind returns no value: nothing was found, another kind was found, or a fault was found. Out of
-- memory is left out.
abbrev pub IsAccessFault : ElementType → Option Meaning → ValueAccessErrorKind → Type 0
IsAccessFault expected found access.NotPresent = found ≡ None
IsAccessFault expected found (access.UnexpectedType wanted actual) = (v : RawValue) × (found ≡ Some (value v)) × (wanted ≡ expected) × (actual ≡ kind_of_raw v)
IsAccessFault expected found (access.InvalidBson inner) = (fault : KeyedFault) × (found ≡ Some (faulty fault)) × SaysInner inner fault
IsAccessFault expected found access.OutOfMemory = ⊥

-- The kind of the error satisfies P, and the error has a copy of the key that was asked for. Or memory ran out: then
-- the error is out of memory and has the empty key.
abbrev pub CarriesKeyAsked : (ValueAccessErrorKind → Type 0) → List ℕ → ValueAccessError → Type 0
CarriesKeyAsked P key e = (P e.kind × (key_asked e ≡ key)) ⊎ ((e.kind ≡ access.OutOfMemory) × (key_asked e ≡ []))

-- the same for one kind that isn't out of memory
abbrev pub HasKeyAsked : ValueAccessErrorKind → List ℕ → ValueAccessError → Type 0
HasKeyAsked kind key e = CarriesKeyAsked (λ k. (k ≡ kind) × (k ≢ access.OutOfMemory)) key e

-- What a getter returns. T is the type of its value, and value_as the value that such a view shows.
module _ {T : Type 0} where
  -- what a getter returns for a key and for what was found: the value if it is of the kind, otherwise why there is
  -- none
  abbrev pub Gets : (T → RawValue) → ElementType → List ℕ → Option Meaning → Result T ValueAccessError → Type 0
  Gets value_as expected key found (Ok x) = found ≡ Some (value (value_as x))
  Gets value_as expected key found (Err e) = IsNoValueOf expected found × CarriesKeyAsked (IsAccessFault expected found) key e

  -- what a getter returns that looks up a key in the document b
  abbrev pub GetsByKey : (T → RawValue) → ElementType → List ℕ → List ℕ → Result T ValueAccessError → Type 0
  GetsByKey value_as expected b key answer = (found : Option Meaning) × LooksUp b key found × Gets value_as expected key found answer

  -- what a getter returns that looks up an index in the document b; its errors carry the index in decimal
  abbrev pub GetsAt : (T → RawValue) → ElementType → List ℕ → ℕ → Result T ValueAccessError → Type 0
  GetsAt value_as expected b index answer = (found : Option Meaning) × IsAt b index found × Gets value_as expected (decimal index) found answer

-- why a getter for this kind returns no value for this result of a look-up
abbrev pub IsTypedFault : ElementType → Result (Option RawBsonRef) Error → ValueAccessErrorKind → Type 0
IsTypedFault expected answer access.NotPresent = answer ≡ Ok None
IsTypedFault expected answer (access.UnexpectedType wanted actual) =
    (v : RawBsonRef) × (answer ≡ Ok (Some v)) × (kind_of_raw (value_of v) ≢ expected) × (wanted ≡ expected) × (actual ≡ kind_of_raw (value_of v))
IsTypedFault expected answer (access.InvalidBson inner) = (answer ≡ Err inner) × (inner.kind ≢ what.OutOfMemory)
IsTypedFault expected answer access.OutOfMemory = (e : Error) × (answer ≡ Err e) × (e.kind ≡ what.OutOfMemory)

-- what a getter for this kind returns for the result of a look-up
module _ {T : Type 0} where
  -- without a key: the value of the kind, or why there is none
  abbrev pub Types : (T → RawValue) → ElementType → Result (Option RawBsonRef) Error → Result T ValueAccessErrorKind → Type 0
  Types value_as expected answer (Ok x) = (v : RawBsonRef) × (answer ≡ Ok (Some v)) × (value_of v ≡ value_as x)
  Types value_as expected answer (Err kind) = IsTypedFault expected answer kind

  -- with the key, or out of memory for it
  abbrev pub Accesses : (T → RawValue) → ElementType → List ℕ → Result (Option RawBsonRef) Error → Result T ValueAccessError → Type 0
  Accesses value_as expected key answer (Ok x) = (v : RawBsonRef) × (answer ≡ Ok (Some v)) × (value_of v ≡ value_as x)
  Accesses value_as expected key answer (Err e) = (kind : ValueAccessErrorKind) × IsTypedFault expected answer kind × HasKeyAsked kind key e

  -- What an accessor for this kind returns for the value v: v itself if it is of the kind, otherwise nothing.
  abbrev pub Shows : (T → RawValue) → ElementType → RawValue → Option T → Type 0
  Shows value_as kind v (Some x) = v ≡ value_as x
  Shows value_as kind v None = kind_of_raw v ≢ kind
