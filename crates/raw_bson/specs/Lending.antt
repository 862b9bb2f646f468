-- What a value lends of itself, to be changed.
use Rattle.std.specs.Prelude.{◌≡◌, ℕ, List, Option, None, Some}
use Rattle.std.specs.Borrow.{LendsIf, MutBor, Fml}
use Rattle.raw_bson.specs.contracts.array_buf.RawArrayBuf as array_buf
use Rattle.raw_bson.specs.contracts.bson.RawBson as value
use Rattle.raw_bson.specs.contracts.document_buf.RawDocumentBuf as document_buf
use Rattle.raw_bson.specs.Count.{ArrayBytes}
use Rattle.raw_bson.specs.declared.bson.RawBson.{RawBson}
use Rattle.raw_bson.specs.declared.bson.RawBson.TheVariants as own

-- the array that the value holds; nothing for every other variant
abbrev pub HoldsArray : RawBson → Option (MutBor ArrayBytes) → Type 0
HoldsArray v (Some lent) = v ≡ own.Array lent.now
HoldsArray (own.Array _) None = ⊥
HoldsArray v None = Unit {0}

-- the same of a nested document
abbrev pub HoldsDocument : RawBson → Option (MutBor (List ℕ)) → Type 0
HoldsDocument v (Some lent) = v ≡ own.Document lent.now
HoldsDocument (own.Document _) None = ⊥
HoldsDocument v None = Unit {0}

-- afterwards the value holds the array as it was left; if none was lent, it is unchanged
abbrev pub LendsArray : MutBor RawBson → Option (MutBor ArrayBytes) → Fml
LendsArray s r = LendsIf value.the_row array_buf.the_row s r own.Array s.now

-- the same of a nested document
abbrev pub LendsDocument : MutBor RawBson → Option (MutBor (List ℕ)) → Fml
LendsDocument s r = LendsIf value.the_row document_buf.the_row s r own.Document s.now
