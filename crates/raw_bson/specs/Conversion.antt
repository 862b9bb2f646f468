-- What conversions between owned values, documents and trees return.
pub use Rattle.raw_tree.specs.CanonicalForm.{TellsTooLong}
use Rattle.std.specs.Prelude.{◌≡◌, ◌⊎◌, ℕ, List, length, Some, Result, Ok, Err}
use Rattle.bson_model.specs.Tree.{Tree, leaf, array, document, code_with_scope, items_in, tree_of}
use Rattle.bson_model.specs.declared.bson.Bson.{Bson}
use Rattle.raw_view.specs.Frame.Envelope.{IsEnvelope}
use Rattle.raw_view.specs.Errors.{TellsRefusal}
use Rattle.raw_view.specs.Meaning.{RawValue}
use Rattle.raw_view.specs.Meaning as raw
use Rattle.raw_view.specs.declared.error.Error.{Error}
use Rattle.raw_tree.specs.Encoding.{IsEncoded, IsRefused}
use Rattle.raw_tree.specs.Reading.{FirstFaultOfValue, HasOneReading, Reads, ReadsAs, StandsFor, TellsFirstFault, TellsFirstFaultOfValue}
use Rattle.raw_bson.specs.Owned.{owned_value, count_in}
use Rattle.raw_bson.specs.declared.bson.RawBson.{RawBson}

-- What an owned value becomes: one that holds no others is moved as it is; the nested bytes of any other are read.
abbrev pub BecomesTree : RawValue → Tree → Type 0
BecomesTree (raw.single l) t = t ≡ leaf l
BecomesTree v t = StandsFor ReadsAs v t

-- a value becomes exactly one tree, or has exactly one first fault
abbrev pub BecomesOneTree : RawValue → Type 0
BecomesOneTree v = HasOneReading (BecomesTree v) (FirstFaultOfValue v)

-- What is returned for it. A value that holds no others always gives its tree; any other gives the tree, its first fault or out of memory.
abbrev pub BecomesBson : RawValue → Result Bson Error → Type 0
BecomesBson v (Ok t) = BecomesTree v (tree_of t)
BecomesBson (raw.single l) (Err e) = ⊥
BecomesBson v (Err e) = TellsFirstFaultOfValue v e

-- What a tree becomes. A leaf is always moved as it is; a document, a list and a scope are written, or the call fails. The count of an
-- array is the length of the list.
abbrev pub BecomesRawBson : Tree → Result RawBson Error → Type 0
BecomesRawBson (leaf l) (Ok v) = owned_value v ≡ raw.single l
BecomesRawBson (leaf l) (Err e) = ⊥
BecomesRawBson (array ts) (Ok v) = (b : List ℕ) × IsEncoded (array ts) b × (owned_value v ≡ raw.array b) × (count_in v ≡ Some (length (items_in ts)))
BecomesRawBson (array ts) (Err e) = IsRefused (array ts) e
BecomesRawBson (document es) (Ok v) = (b : List ℕ) × IsEncoded (document es) b × (owned_value v ≡ raw.document b)
BecomesRawBson (document es) (Err e) = IsRefused (document es) e
BecomesRawBson (code_with_scope code es) (Ok v) = (b : List ℕ) × IsEncoded (document es) b × (owned_value v ≡ raw.scoped code b)
BecomesRawBson (code_with_scope code es) (Err e) = IsRefused (document es) e

-- Why no canonical form of these bytes is returned: the first reason why they have no envelope; otherwise their first fault, or out of
-- memory; otherwise the encoding of their tree would be too long.
abbrev pub RefusesForm : List ℕ → Error → Type 0
RefusesForm b e = TellsRefusal b e ⊎ (IsEnvelope b × (TellsFirstFault b e ⊎ ((t : Tree) × Reads b t × TellsTooLong t e)))
