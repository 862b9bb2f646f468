-- What a user is: a document with an exact set of fields.
use Rattle.std.specs.Prelude.{◌≡◌, ◌⊎◌, ◌<◌, ◌≤ℤ◌, ℕ, ℤ, pos, Bool, true, false, List, length, codes, Option, Some, None, Result, Ok, Err}
use Rattle.raw_bson.specs.Error.{Error}
use Rattle.raw_bson.specs.Folds.{FoldsEach}
use Rattle.raw_bson.specs.Leaf.{object_id, string, int32}
use Rattle.raw_bson.specs.Meaning.{RawValue, single}
use Rattle.bson_uses.specs.declared.user.Field.{Field}
use Rattle.bson_uses.specs.declared.user.Field.TheVariants as field
use Rattle.bson_uses.specs.declared.user.Fields.{Fields}
use Rattle.bson_uses.specs.declared.user.NotUser.{NotUser}
use Rattle.bson_uses.specs.declared.user.NotUser.TheVariants as refused

-- an error of the library, as an error of this check
abbrev pub damaged : Error → NotUser
damaged e = refused.Damaged e

-- the key and the value are this field
abbrev pub IsField : Field → List ℕ → RawValue → Type 0
IsField field.Id key v = (key ≡ codes "_id") × (id : List ℕ) × (v ≡ single (object_id id))
IsField field.Email key v = (key ≡ codes "email") × (text : List ℕ) × (v ≡ single (string text)) × (0 < length text)
IsField field.Age key v = (key ≡ codes "age") × (years : ℤ) × (v ≡ single (int32 years)) × (pos 0 ≤ℤ years) × (years ≤ℤ pos 150)

-- the field of this key and value; or there is none
abbrev pub TellsField : List ℕ → RawValue → Option Field → Type 0
TellsField key v (Some f) = IsField f key v
TellsField key v None = (f : Field) → ¬ IsField f key v

-- no field
abbrev pub nothing : Fields
nothing = record { id = false; email = false; age = false }

-- whether this field is among them
abbrev pub has : Fields → Field → Bool
has fields field.Id = fields.id
has fields field.Email = fields.email
has fields field.Age = fields.age

-- these fields and this one
abbrev pub plus : Fields → Field → Fields
plus fields field.Id = record { id = true; email = fields.email; age = fields.age }
plus fields field.Email = record { id = fields.id; email = true; age = fields.age }
plus fields field.Age = record { id = fields.id; email = fields.email; age = true }

-- a field is added that wasn't there
abbrev pub AddsField : Fields → Field → Result Fields NotUser → Type 0
AddsField fields f r = ((has fields f ≡ false) × (r ≡ Ok (plus fields f))) ⊎ ((has fields f ≡ true) × (r ≡ Err refused.Repeated))

-- the key and the value are a field, which is added; or there is none
abbrev pub AddsItem : Fields → List ℕ → RawValue → Result Fields NotUser → Type 0
AddsItem fields key v r = ((f : Field) × IsField f key v × AddsField fields f r) ⊎ (((f : Field) → ¬ IsField f key v) × (r ≡ Err refused.OtherField))

-- an identifier and an address are among the fields
abbrev pub HasAllFields : Fields → Type 0
HasAllFields fields = (fields.id ≡ true) × (fields.email ≡ true)

-- Ok if each item of the document b adds a field, and these are complete; otherwise what is wrong with the first item that adds none, or a
-- fault before it, or that the fields aren't complete
abbrev pub ChecksUser : List ℕ → Result (Unit {0}) NotUser → Type 0
ChecksUser b (Ok _) = (fields : Fields) × FoldsEach damaged AddsItem nothing b (Ok fields) × HasAllFields fields
ChecksUser b (Err e) =
    FoldsEach damaged AddsItem nothing b (Err e)
    ⊎ ((e ≡ refused.Missing) × (fields : Fields) × FoldsEach damaged AddsItem nothing b (Ok fields) × ¬ HasAllFields fields)
