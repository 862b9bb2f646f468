-- Reading within limits: the depth of a document, the trees of documents within the limits, and the first barrier of
-- all others. The bytes b of a document or of an array have an envelope.
use Rattle.std.specs.Prelude.{◌≡◌, ◌⊎◌, ◌≤◌, ◌+◌, max, ℕ, suc, zero, List, [], ◌∷◌, None, drop, length}
use Rattle.bson_model.specs.Tree.{Tree}
use Rattle.raw_view.specs.Errors.Answers.{Says}
use Rattle.raw_view.specs.Frame.Envelope.{IsEnvelope}
use Rattle.raw_view.specs.Errors.{IsOutOfMemory, key_of}
use Rattle.raw_view.specs.Frame.{Frame, End, IsWalk}
use Rattle.raw_view.specs.Meaning.{Meaning, Means}
use Rattle.raw_view.specs.declared.error.Error.{Error}
use Rattle.raw_view.specs.declared.error.ErrorKind.TheVariants as kind
use Rattle.raw_view.specs.declared.error.Reason.TheVariants as reason
use Rattle.raw_tree.specs.reader.FrameCount.{HasInside}
use Rattle.raw_tree.specs.reader.Reading.{FirstFaultAt, HasOneReading, Reads}
pub use Rattle.raw_tree.specs.reader.Reading.{Barrier, IsFaultWith, fault_of, too_deep, too_many_bytes}
use Rattle.raw_tree.specs.declared.reader.limits.Limits.{Limits}
use Rattle.raw_tree.specs.walk.First.{Step}
use Rattle.raw_tree.specs.walk.Places.{FirstBarrierAt}

-- depths; `Nested` says how deep nested bytes are
module _ (Nested : List ℕ → ℕ → Type 0) where
  -- the greatest depth of the meanings of these frames; 0 if there is no frame
  abbrev pub IsGreatestDepth : List Frame → ℕ → Type 0
  IsGreatestDepth [] n = n ≡ 0
  IsGreatestDepth (f ∷ fs) n = (m : Meaning) × (inside : ℕ) × (others : ℕ) × Means f m × HasInside Nested m inside × IsGreatestDepth fs others × (n ≡ max inside others)

-- the depth of these bytes, which have at most this many levels: one more than the greatest depth of nested bytes
abbrev pub HasDepthUpTo : ℕ → List ℕ → ℕ → Type 0
HasDepthUpTo zero b n = ⊥
HasDepthUpTo (suc levels) b n = (frames : List Frame) × (end : End) × (inside : ℕ) × IsWalk (drop 4 b) frames end × IsGreatestDepth (HasDepthUpTo levels) frames inside × (n ≡ 1 + inside)

-- the depth of these bytes: 1, or one more than the greatest depth of the bytes nested in them
abbrev pub HasDepth : List ℕ → ℕ → Type 0
HasDepth b n = (levels : ℕ) × HasDepthUpTo levels b n

-- all bytes with an envelope have exactly one depth
abbrev pub AllHaveOneDepth : Type 0
AllHaveOneDepth = (b : List ℕ) → IsEnvelope b → (n : ℕ) × HasDepth b n × ((other : ℕ) → HasDepth b other → other ≡ n)

-- the first of a fault and of a level deeper than n, wherever it is
abbrev pub FirstFaultWithin : ℕ → List ℕ → Barrier → Type 0
FirstFaultWithin n b x = (path : List Step) × (offset : ℕ) × FirstFaultAt n b x path offset

-- the document b has few enough bytes and levels, and is read as this tree
pub record ReadsWithin (limits : Limits) (b : List ℕ) (t : Tree) : Type 0 where
  pub few_bytes : length b ≤ limits.bytes
  pub read : Reads b t
  pub shallow : (n : ℕ) × HasDepth b n × (n ≤ limits.depth)

-- the first barrier of the document b, wherever it is
abbrev pub FirstBarrier : Limits → List ℕ → Barrier → Type 0
FirstBarrier limits b x = (path : List Step) × (offset : ℕ) × FirstBarrierAt limits b x path offset

-- a document is read as one tree within the limits or has one first barrier, and never both
abbrev pub AllAreAnsweredOneWay : Limits → Type 0
AllAreAnsweredOneWay limits = (b : List ℕ) → IsEnvelope b → HasOneReading (ReadsWithin limits b) (FirstBarrier limits b)

-- the error says the barrier: without a key for too many bytes and for a level that is too deep; with the key of the
-- fault for a fault
abbrev pub SaysBarrier : Error → Barrier → Type 0
SaysBarrier e too_many_bytes = (e.kind ≡ kind.MalformedValue reason.TooManyBytes) × (key_of e ≡ None)
SaysBarrier e too_deep = (e.kind ≡ kind.MalformedValue reason.TooDeep) × (key_of e ≡ None)
SaysBarrier e (fault_of fault) = Says e fault

-- an error of reading these bytes to a depth: the first barrier within it, or out of memory
abbrev pub TellsFirstFaultWithin : ℕ → List ℕ → Error → Type 0
TellsFirstFaultWithin depth b e = IsOutOfMemory e ⊎ ((x : Barrier) × FirstFaultWithin depth b x × SaysBarrier e x)

-- an error of reading these bytes within limits: their first barrier, or out of memory if there are few enough bytes
abbrev pub TellsFirstBarrier : Limits → List ℕ → Error → Type 0
TellsFirstBarrier limits b e = ((length b ≤ limits.bytes) × IsOutOfMemory e) ⊎ ((x : Barrier) × FirstBarrier limits b x × SaysBarrier e x)
