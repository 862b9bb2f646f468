-- Values at paths, whose steps have a separator between them. The bytes b are the caller's.
use Rattle.std.specs.Prelude.{◌≡◌, ◌⊎◌, ◌∷◌, [], ℕ, ℤ, Bool, true, false, nat_eq, List}
use Rattle.std.specs.List.{list_any}
use Rattle.bsonraw_c.specs.Iters.{BeginsWhole, Returns}
use Rattle.bsonraw_c.specs.Paths.{FindsPathOf}
use Rattle.bsonraw_c.specs.Values.{GivesValue, no_fault, no_value}
use Rattle.bsonraw_c.specs.declared.codes.Status.TheVariants as status
use Rattle.bsonraw_c.specs.declared.fault.Fault.{Fault}
use Rattle.bsonraw_c.specs.declared.iter.Iter.{Iter}
use Rattle.bsonraw_c.specs.declared.value.Value.{Value}

-- what setting an iterator to the element at a path returns, of the document that all bytes are; or why they are none
abbrev pub BeginsAndFindsPath : List ℕ → List ℕ → ℕ → Iter → ℤ → Type 0
BeginsAndFindsPath b path separator it code = (first : Iter) × (begun : ℤ) × BeginsWhole b first begun
    × ((Returns status.Done begun × FindsPathOf b path separator first it code) ⊎ ((¬ Returns status.Done begun) × (it ≡ first) × (code ≡ begun)))

-- whether an element with this tag is wanted: without tags each is, else those that have one of these
abbrev pub is_wanted : ℕ → List ℕ → Bool
is_wanted tag [] = true
is_wanted tag (t ∷ ts) = list_any (λ x. nat_eq x tag) (t ∷ ts)

-- no value, for this fault; all else is 0
abbrev pub lacking : Fault → Value
lacking fault = record (no_value 0 0) { fault = fault }

-- The value of the element at the path, if it is wanted; or an element is there that isn't; or none is there.
abbrev pub GivesValueAt : List ℕ → List ℕ → ℕ → List ℕ → Value → ℤ → Type 0
GivesValueAt b path separator tags x code =
    (it : Iter) × (found : ℤ) × BeginsAndFindsPath b path separator it found
    × ((Returns status.Done found × (is_wanted it.tag tags ≡ true) × GivesValue b it x code)
    ⊎ (Returns status.Done found × (is_wanted it.tag tags ≡ false) × (x ≡ lacking no_fault) × Returns status.OtherKind code)
    ⊎ ((¬ Returns status.Done found) × (x ≡ lacking it.fault) × (code ≡ found)))
