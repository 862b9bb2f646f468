-- Copies that own their bytes.
use Rattle.std.specs.Prelude.{◌≡◌, ℕ, List, length, Result, Ok, Err}
use Rattle.raw_view.specs.Meaning.Item.{Item}
use Rattle.raw_view.specs.OneReading.{AreTheItems}
use Rattle.raw_view.specs.Errors.Answers.{Says}
use Rattle.raw_view.specs.Errors.{IsOutOfMemory}
use Rattle.raw_view.specs.Meaning.{RawValue, single, Meaning, value, faulty}
use Rattle.raw_view.specs.declared.error.Error.{Error}
use Rattle.raw_tree.specs.Reading.{leaf_in_order}
use Rattle.raw_bson.specs.Owned.{owned_value}
use Rattle.raw_bson.specs.declared.bson.RawBson.{RawBson}
use Rattle.raw_bson.specs.declared.bson.RawBson.TheVariants as own

-- the array with these bytes has n items, including faults and the stop
abbrev pub CountsItems : List ℕ → ℕ → Type 0
CountsItems b count = (items : List Item) × AreTheItems b items × (count ≡ length items)

-- the same value, except that the options of a regular expression are in ascending order
abbrev pub with_options_in_order : RawValue → RawValue
with_options_in_order (single l) = single (leaf_in_order l)
with_options_in_order v = v

-- the count of an array is the number of its items
abbrev pub HasItemCount : RawBson → Type 0
HasItemCount (own.Array a) = CountsItems a.bytes a.count
HasItemCount _ = Unit {0}

-- the owned value is a copy of the borrowed one
pub record IsCopy (v : RawValue) (copy : RawBson) : Type 0 where
  pub value_is : owned_value copy ≡ with_options_in_order v
  pub count_is : HasItemCount copy

-- what copying an element with this meaning returns: a copy of the value, or out of memory; or the fault
abbrev pub CopiesMeaning : Meaning → Result RawBson Error → Type 0
CopiesMeaning (value v) (Ok copy) = IsCopy v copy
CopiesMeaning (value v) (Err e) = IsOutOfMemory e
CopiesMeaning (faulty fault) (Ok copy) = ⊥
CopiesMeaning (faulty fault) (Err e) = Says e fault
