-- The tree of bytes, and the first fault of bytes that have none. The bytes b of a document or of an array have an
-- envelope.
use Rattle.std.specs.Prelude.{◌≡◌, ◌⊎◌, ℕ, suc, zero, List, [], ◌∷◌, Option, None, Some, drop, map}
use Rattle.bson_model.specs.Leaf.{Leaf, regular_expression}
use Rattle.bson_model.specs.Options.{sorted_options}
use Rattle.bson_model.specs.Pairs.{keep}
use Rattle.bson_model.specs.Tree.{Tree, Entries, leaf, array, document, code_with_scope, trees, entries}
use Rattle.raw_view.specs.Errors.Answers.{Says}
use Rattle.raw_view.specs.Frame.Envelope.{IsEnvelope}
use Rattle.raw_view.specs.Errors.{IsOutOfMemory}
use Rattle.raw_view.specs.Frame.{Frame, IsFrame, IsStop, IsWalk, Done}
use Rattle.raw_view.specs.Meaning.{RawValue, KeyedFault, Means, value, faulty}
use Rattle.raw_view.specs.Meaning as raw
use Rattle.raw_view.specs.declared.error.Error.{Error}
use Rattle.raw_tree.specs.walk.First.{IsFirst, Sought, Step}
pub use Rattle.raw_tree.specs.walk.First.{HoldsAs, Sort, as_array, as_document}

-- the tree of pairs of a key and a tree; in a document each key has its first place and its last tree, in an array
-- there are the trees alone
abbrev pub tree_of_pairs : Sort → List (List ℕ × Tree) → Tree
tree_of_pairs as_document pairs = document (entries (keep pairs))
tree_of_pairs as_array pairs = array (trees (map (λ p. p.1) pairs))

-- a leaf as it is read: the options of a regular expression are in ascending order
abbrev pub leaf_in_order : Leaf → Leaf
leaf_in_order (regular_expression pattern options) = regular_expression pattern (sorted_options options)
leaf_in_order l = l

-- the value stands for the tree; `Nested` says which trees nested bytes are read as
module _ (Nested : Sort → List ℕ → Tree → Type 0) where
  -- a value that holds no others stands for its leaf, and a value that holds others for the tree of its bytes
  abbrev pub StandsFor : RawValue → Tree → Type 0
  StandsFor (raw.single l) t = t ≡ leaf (leaf_in_order l)
  StandsFor (raw.document d) t = Nested as_document d t
  StandsFor (raw.array d) t = Nested as_array d t
  StandsFor (raw.scoped code d) t = (es : Entries) × Nested as_document d (document es) × (t ≡ code_with_scope code es)

  -- each frame means a value that stands for the tree under the frame's key
  abbrev pub StandForEach : List Frame → List (List ℕ × Tree) → Type 0
  StandForEach [] pairs = pairs ≡ []
  StandForEach (f ∷ fs) pairs = (v : RawValue) × (t : Tree) × (rest : List (List ℕ × Tree)) × Means f (value v) × StandsFor v t × (pairs ≡ (f.key, t) ∷ rest) × StandForEach fs rest

  -- s, the rest of a document or an array, is read as these pairs: its walk ends at the final 0, and each frame means
  -- a value that stands for a tree
  abbrev pub ReadsRest : List ℕ → List (List ℕ × Tree) → Type 0
  ReadsRest s pairs = (frames : List Frame) × IsWalk s frames Done × StandForEach frames pairs

-- The bytes, which have at most n levels, are read as this tree: what follows their length is read as pairs, and the
-- tree is that of the pairs.
abbrev pub ReadsUpTo : ℕ → Sort → List ℕ → Tree → Type 0
ReadsUpTo zero sort b t = ⊥
ReadsUpTo (suc n) sort b t = (pairs : List (List ℕ × Tree)) × ReadsRest (ReadsUpTo n) (drop 4 b) pairs × (t ≡ tree_of_pairs sort pairs)

-- these bytes are read as this tree
abbrev pub ReadsAs : Sort → List ℕ → Tree → Type 0
ReadsAs sort b t = (levels : ℕ) × ReadsUpTo levels sort b t

-- the document b is read as this tree
abbrev pub Reads : List ℕ → Tree → Type 0
Reads b t = ReadsAs as_document b t

-- the frame means a value that stands for this tree
abbrev pub FrameStandsFor : Frame → Tree → Type 0
FrameStandsFor f t = (v : RawValue) × Means f (value v) × StandsFor ReadsAs v t

-- the value holds these nested bytes
abbrev pub Holds : RawValue → List ℕ → Type 0
Holds (raw.single l) d = ⊥
Holds (raw.document e) d = d ≡ e
Holds (raw.array e) d = d ≡ e
Holds (raw.scoped code e) d = d ≡ e

-- what ends a reading within limits: too many bytes, a level that is too deep, or a fault
pub data Barrier : Type 0 where
  too_many_bytes : Barrier
  too_deep : Barrier
  fault_of : KeyedFault → Barrier

-- the barrier is a fault, and this holds of it
abbrev pub IsFaultWith : (KeyedFault → Type 0) → Barrier → Type 0
IsFaultWith P (fault_of fault) = P fault
IsFaultWith P too_many_bytes = ⊥
IsFaultWith P too_deep = ⊥

-- s stops with this fault; or the frame at its front has this key and means the fault
abbrev pub FailsAt : List ℕ → Option (List ℕ) → KeyedFault → Type 0
FailsAt s None fault = IsStop s fault.fault fault.key
FailsAt s (Some key) fault = (f : Frame) × (r : List ℕ) × IsFrame s f r × Means f (faulty fault) × (key ≡ f.key)

-- the frames stand for trees; nested bytes have at most this many levels
abbrev pub StandForTrees : ℕ → List Frame → Type 0
StandForTrees inside frames = (pairs : List (List ℕ × Tree)) × StandForEach (ReadsUpTo inside) frames pairs

-- faults are sought, and frames that stand for trees have none
abbrev pub barriers : Sought Barrier
barriers = record {
  passes = λ inside sort passed. StandForTrees inside passed;
  is_at = λ sort passed s key x. IsFaultWith (λ fault. FailsAt s key fault) x;
  deep = too_deep;
}

-- the first of a fault and of a level deeper than n
abbrev pub FirstFaultAt : ℕ → List ℕ → Barrier → List Step → ℕ → Type 0
FirstFaultAt n b x path offset = IsFirst barriers n as_document b x path offset

-- the first fault of these bytes
abbrev pub FirstFault : List ℕ → KeyedFault → Type 0
FirstFault b fault = (n : ℕ) × (path : List Step) × (offset : ℕ) × FirstFaultAt n b (fault_of fault) path offset

-- the first fault of a value is that of the nested bytes in it
abbrev pub FirstFaultOfValue : RawValue → KeyedFault → Type 0
FirstFaultOfValue v fault = (d : List ℕ) × Holds v d × FirstFault d fault

-- the first fault of a frame is the one that it means, or that of the value that it means
abbrev pub FirstFaultOfFrame : Frame → KeyedFault → Type 0
FirstFaultOfFrame f fault = Means f (faulty fault) ⊎ ((v : RawValue) × Means f (value v) × FirstFaultOfValue v fault)

-- Either there is exactly one tree of which `IsTree` holds, and no fault or barrier of which `IsFault` holds; or
-- exactly one of these, and no tree.
pub record HasOneReading {X : Type 0} (IsTree : Tree → Type 0) (IsFault : X → Type 0) : Type 0 where
  pub either : ((t : Tree) × IsTree t) ⊎ ((fault : X) × IsFault fault)
  pub not_both : (t : Tree) (fault : X) → IsTree t → ¬ IsFault fault
  pub one_tree : (t other : Tree) → IsTree t → IsTree other → other ≡ t
  pub one_fault : (fault other : X) → IsFault fault → IsFault other → other ≡ fault

-- bytes are read as one tree or have one first fault
abbrev pub AreReadOneWay : Sort → List ℕ → Type 0
AreReadOneWay sort b = HasOneReading (ReadsAs sort b) (FirstFault b)

-- this holds of all bytes with an envelope
abbrev pub AllAreReadOneWay : Sort → Type 0
AllAreReadOneWay sort = (b : List ℕ) → IsEnvelope b → AreReadOneWay sort b

-- a value stands for one tree or has one first fault
abbrev pub IsValueReadOneWay : RawValue → Type 0
IsValueReadOneWay v = HasOneReading (StandsFor ReadsAs v) (FirstFaultOfValue v)

-- a frame stands for one tree or has one first fault
abbrev pub IsFrameReadOneWay : Frame → Type 0
IsFrameReadOneWay f = HasOneReading (FrameStandsFor f) (FirstFaultOfFrame f)

-- an error of reading these bytes: their first fault with the key of the fault, or out of memory
abbrev pub TellsFirstFault : List ℕ → Error → Type 0
TellsFirstFault b e = IsOutOfMemory e ⊎ ((fault : KeyedFault) × FirstFault b fault × Says e fault)

-- the same of a value
abbrev pub TellsFirstFaultOfValue : RawValue → Error → Type 0
TellsFirstFaultOfValue v e = IsOutOfMemory e ⊎ ((fault : KeyedFault) × FirstFaultOfValue v fault × Says e fault)

-- the same of a frame
abbrev pub TellsFirstFaultOfFrame : Frame → Error → Type 0
TellsFirstFaultOfFrame f e = IsOutOfMemory e ⊎ ((fault : KeyedFault) × FirstFaultOfFrame f fault × Says e fault)
