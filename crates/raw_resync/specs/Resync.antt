-- Which documents count in the rest of an input, s, where documents continue in it, and which lengths of damaged documents are believed.
-- Offsets and lengths are those of the input alone; searches don't occur here.
use Rattle.std.specs.Prelude.{◌≡◌, ◌⊎◌, ◌<◌, ◌≤◌, ℕ, List, [], ◌++◌, drop, length, take}
use Rattle.std.specs.List.{All}
use Rattle.std.specs.Str.{IsUtf8}
use Rattle.bson_model.specs.Tree.{Tree}
use Rattle.raw_view.specs.Frame.{Done, Frame, IsWalk}
use Rattle.raw_view.specs.Frame.Envelope.{IsEnvelope}
use Rattle.raw_view.specs.Frame.Format.{tagged}
use Rattle.raw_view.specs.Frame.Kind.{tag_of}
use Rattle.raw_view.specs.declared.element_type.ElementType.TheVariants as kind
use Rattle.raw_tree.specs.WithinLimits.{ReadsWithin}
use Rattle.raw_tree.specs.declared.reader.limits.Limits.{Limits}
use Rattle.raw_resync.specs.Pieces.{IsPiece}

-- an undamaged document within the limits
pub record IsSound (limits : Limits) (b : List ℕ) : Type 0 where
  pub piece : IsPiece limits.bytes b
  pub envelope : IsEnvelope b
  pub tree : Tree
  pub reads : ReadsWithin limits b tree

-- the payload of an element with this tag begins with a length, or with what may look like one
abbrev pub IsBeforeLength : (tag : ℕ) → Type 0
IsBeforeLength tag = (tag ≡ tag_of kind.EmbeddedDocument) ⊎ (tag ≡ tag_of kind.Array) ⊎ (tag ≡ tag_of kind.Int32)

-- s ends as bytes do before the length of a nested document, or before a number that only looks like the length of what follows: with the
-- tag of a document, an array or an int32, a key, and a 0. The key is UTF-8 of 1 to 64 bytes, and none of them is under 32.
pub record EndsInKey (s : List ℕ) : Type 0 where
  pub front : List ℕ
  pub tag : ℕ
  pub key : List ℕ
  pub spelled : s ≡ front ++ tagged tag key []
  pub before : IsBeforeLength tag
  pub some : 0 < length key
  pub few : length key ≤ 64
  pub text : IsUtf8 key
  pub plain : All (λ c. 32 ≤ c) key

-- A document that counts begins j bytes after the front of s: it is undamaged, within the limits, and has over 8 bytes, and the bytes of s
-- before it don't say that it is inside another. They say so if they end in the key of a document or an array, or in that of an int32,
-- whose number may look like the length of what follows.
pub record IsEvidence (limits : Limits) (s : List ℕ) (j : ℕ) : Type 0 where
  pub b : List ℕ
  pub rest : List ℕ
  pub split : drop j s ≡ b ++ rest
  pub sound : IsSound limits b
  pub long : 8 < length b
  pub alone : ¬ EndsInKey (take j s)

-- documents continue j bytes after the front of s: the input ends there, or a document that counts begins
abbrev pub GoesOn : Limits → List ℕ → ℕ → Type 0
GoesOn limits s j = (drop j s ≡ []) ⊎ IsEvidence limits s j

-- b has an envelope, and its elements follow one another up to the final 0, whatever their values mean
abbrev pub IsFramed : List ℕ → Type 0
IsFramed b = IsEnvelope b × ((fs : List Frame) × IsWalk (drop 4 b) fs Done)

-- The length of a damaged document at the front of s isn't believed: its elements don't follow one another up to the end of that length,
-- and documents continue at a place inside, or don't continue at the front of what follows it.
abbrev pub IsDisbelieved : Limits → List ℕ → (len : ℕ) → Type 0
IsDisbelieved limits s len = (¬ IsFramed (take len s)) × (((j : ℕ) × (0 < j) × (j < len) × GoesOn limits s j) ⊎ ¬ GoesOn limits (drop len s) 0)
