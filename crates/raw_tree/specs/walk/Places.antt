-- The place of the first barrier of a document: the path to it, and the offset at which it begins. The bytes b of a
-- document have an envelope.
use Rattle.std.specs.Prelude.{◌≡◌, ◌⊎◌, ◌≤◌, ◌<◌, ℕ, List, [], ◌∷◌, Option, None, length}
use Rattle.raw_tree.specs.reader.Reading.{Barrier, too_many_bytes, FirstFaultAt}
use Rattle.raw_tree.specs.declared.reader.limits.Limits.{Limits}
pub use Rattle.raw_tree.specs.walk.First.{BeginsAt, Step}

-- the key of the last step, if there is a step with a key
abbrev pub last_key : List Step → Option (List ℕ)
last_key [] = None
last_key (step ∷ []) = step.key
last_key (step ∷ next ∷ steps) = last_key (next ∷ steps)

-- the first barrier of the document b, the path to it, and its offset; too many bytes are at the document as a whole
abbrev pub FirstBarrierAt : Limits → List ℕ → Barrier → List Step → ℕ → Type 0
FirstBarrierAt limits b x path offset =
    ((limits.bytes < length b) × (x ≡ too_many_bytes) × (path ≡ []) × (offset ≡ 0))
    ⊎ ((length b ≤ limits.bytes) × FirstFaultAt limits.depth b x path offset)

-- a document has at most one first barrier, at one place
abbrev pub AllAreBarredAtOnePlace : Limits → Type 0
AllAreBarredAtOnePlace limits =
    (b : List ℕ) (x other : Barrier) (path other_path : List Step) (offset other_offset : ℕ) → FirstBarrierAt limits b x path offset → FirstBarrierAt limits b other other_path other_offset
    → (other ≡ x) × (other_path ≡ path) × (other_offset ≡ offset)
