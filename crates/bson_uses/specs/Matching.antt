-- What a filter requires of a document.
use Rattle.std.specs.Prelude.{◌≡◌, ◌≢◌, ◌⊎◌, ℕ, ℤ, Bool, true, false, List, codes, int_lt, IsTrue, Option, Some, None, Result, Ok, Err}
use Rattle.raw_bson.specs.EachItem.{SeeksOne, TriesEach, AsksUnder}
use Rattle.raw_bson.specs.Error.{Error}
use Rattle.raw_bson.specs.Leaf.{int32}
use Rattle.raw_bson.specs.Meaning.{RawValue, single, document, array}
use Rattle.raw_bson.specs.Value.{array_bytes_of}
use Rattle.bson_uses.specs.declared.filter.Operator.{Operator}
use Rattle.bson_uses.specs.declared.filter.Operator.TheVariants as operator
use Rattle.bson_uses.specs.declared.filter.Unmet.{Unmet}
use Rattle.bson_uses.specs.declared.filter.Unmet.TheVariants as unmet

-- an error of the library, as an error of this filter
abbrev pub damaged : Error → Unmet
damaged e = unmet.Damaged e

-- Ok if the fact holds, otherwise the document differs
abbrev pub Wants : Type 0 → Result (Unit {0}) Unmet → Type 0
Wants P (Ok _) = P
Wants P (Err unmet.Differs) = ¬ P
Wants P (Err _) = ⊥

-- a value was found, and is this
abbrev pub IsThis : Option RawValue → RawValue → Type 0
IsThis None wanted = ⊥
IsThis (Some v) wanted = v ≡ wanted

-- a number greater than this
abbrev pub IsGreater : ℤ → RawValue → Type 0
IsGreater least v = (number : ℤ) × (v ≡ single (int32 number)) × IsTrue (int_lt least number)

-- the result for what a search in an array returned
abbrev pub of_search : Result Bool Error → Result (Unit {0}) Unmet
of_search (Ok true) = Ok tt
of_search (Ok false) = Err unmet.Differs
of_search (Err e) = Err (unmet.Damaged e)

-- What an operator returns for what was found. Nothing never passes.
abbrev pub MeetsOperator : Option RawValue → Operator → Result (Unit {0}) Unmet → Type 0
MeetsOperator None op r = r ≡ Err unmet.Differs
MeetsOperator (Some v) (operator.Over least) r = Wants (IsGreater least v) r
MeetsOperator (Some v) (operator.Among a) r = (sought : Result Bool Error) × SeeksOne (λ e. e) (λ key w. w ≡ v) (array_bytes_of a) sought × (r ≡ of_search sought)

-- the operator with this name and this operand
abbrev pub Names : List ℕ → RawValue → Operator → Type 0
Names name operand (operator.Over least) = (name ≡ codes "$gt") × (operand ≡ single (int32 least))
Names name operand (operator.Among a) = (name ≡ codes "$in") × (operand ≡ array (array_bytes_of a))

-- what the operator with this name returns for this operand; a bad operator if there is none
abbrev pub MeetsNamed : Option RawValue → List ℕ → RawValue → Result (Unit {0}) Unmet → Type 0
MeetsNamed found name operand (Err unmet.BadOperator) = (op : Operator) → ¬ Names name operand op
MeetsNamed found name operand r = (op : Operator) × Names name operand op × MeetsOperator found op r

-- what was found passes each operator of this condition; otherwise the first that it doesn't pass, or a fault before it
abbrev pub MeetsCondition : List ℕ → Option RawValue → Result (Unit {0}) Unmet → Type 0
MeetsCondition condition found r = TriesEach damaged (MeetsNamed found) condition r

-- what was found is as wanted: a document is a condition, any other value has to be equal
abbrev pub MeetsWanted : RawValue → Option RawValue → Result (Unit {0}) Unmet → Type 0
MeetsWanted wanted found r =
    ((condition : List ℕ) × (wanted ≡ document condition) × MeetsCondition condition found r)
    ⊎ (((condition : List ℕ) → wanted ≢ document condition) × Wants (IsThis found wanted) r)

-- what the document b has under this key is as wanted
abbrev pub MeetsUnder : List ℕ → List ℕ → RawValue → Result (Unit {0}) Unmet → Type 0
MeetsUnder b key wanted r = AsksUnder damaged (MeetsWanted wanted) b key r

-- what the document b has under each key of the filter is as wanted; otherwise the first that isn't, or a fault before it
abbrev pub Matches : List ℕ → List ℕ → Result (Unit {0}) Unmet → Type 0
Matches b filter r = TriesEach damaged (MeetsUnder b) filter r
