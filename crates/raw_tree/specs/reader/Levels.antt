-- Helpers of the reader: what was read so far of a document, an array or a scope, and the value that is made of it. No
-- public contract cites this file.
use Rattle.std.specs.Prelude.{◌≡◌, ◌⊎◌, ℕ, List, [], ◌∷◌, ◌++◌, None, Some, Result, IfOk, IfErr, drop, map}
use denote.Ref.{Bor}
use Rattle.bson_model.specs.Tree.{Tree, tree_of, tree_of_document, tree_of_list}
use Rattle.bson_model.specs.declared.bson.Bson.{Bson}
use Rattle.raw_view.specs.Document.{bytes_of}
use Rattle.raw_view.specs.Meaning.{RawValue}
use Rattle.raw_view.specs.Meaning.Value.{holding}
use Rattle.raw_view.specs.declared.error.Error.{Error}
use Rattle.raw_view.specs.declared.level.Holder.{Holder}
use Rattle.raw_view.specs.declared.level.Holder.TheVariants as of
use Rattle.raw_view.specs.declared.level.RawLevel.{RawLevel}
use Rattle.raw_tree.specs.reader.FrameCount.{TellsFrames}
use Rattle.raw_tree.specs.reader.WithinLimits.{FirstFaultWithin, TellsFirstFaultWithin, too_deep}
use Rattle.raw_tree.specs.reader.Reading.{Sort, as_document, as_array, tree_of_pairs, StandsFor, ReadsUpTo, ReadsAs}
use Rattle.raw_tree.specs.declared.reader.levels.Contents.{Contents}
use Rattle.raw_tree.specs.declared.reader.levels.Contents.TheVariants as contents
use Rattle.raw_tree.specs.declared.reader.levels.Draft.{Draft}
use Rattle.raw_tree.specs.declared.reader.levels.Level.{Level}
use Rattle.raw_tree.specs.declared.reader.levels.Waiting.{Waiting}

-- nested bytes are read as a document or as an array
abbrev pub sort_of : Holder → Sort
sort_of of.Document = as_document
sort_of of.Array = as_array
sort_of (of.Code _) = as_document

-- what holds the bytes with this content
abbrev pub holder_of : Contents → Holder
holder_of (contents.Document None _) = of.Document
holder_of (contents.Document (Some code) _) = of.Code code
holder_of (contents.Array _) = of.Array

-- the tree of the content
abbrev pub tree_of_contents : Contents → Tree
tree_of_contents (contents.Document _ d) = tree_of_document d
tree_of_contents (contents.Array l) = tree_of_list l.items

-- the bytes of keys
abbrev pub texts_of : List (Bor (List ℕ)) → List (List ℕ)
texts_of keys = map (λ key. key.now) keys

-- the keys of what holds the bytes are read; those of an array aren't
abbrev pub KeepsKeys : Holder → Type 0
KeepsKeys of.Document = Unit {0}
KeepsKeys of.Array = ⊥
KeepsKeys (of.Code _) = Unit {0}

-- the values of the draft, and its keys if they are read, are those of the pairs
abbrev pub AreDrafted : Holder → Draft → List (List ℕ × Tree) → Type 0
AreDrafted h d pairs = (KeepsKeys h → texts_of d.keys.items ≡ map (λ p. p.0) pairs) × (map tree_of d.values.items ≡ map (λ p. p.1) pairs)

-- the new draft has what the old one has
abbrev pub IsSameDraft : Draft → Draft → Type 0
IsSameDraft old new = (h : Holder) (pairs : List (List ℕ × Tree)) → AreDrafted h old pairs → AreDrafted h new pairs

-- the new draft has one more key and value
abbrev pub IsPairMore : Draft → List ℕ → Tree → Draft → Type 0
IsPairMore old key t new = (texts_of new.keys.items ≡ texts_of old.keys.items ++ key ∷ []) × (map tree_of new.values.items ≡ map tree_of old.values.items ++ t ∷ [])

-- nothing was read of the level of these nested bytes
abbrev pub IsUnread : RawLevel → Level → Type 0
IsUnread u level = (level.elements ≡ Some (drop 4 (bytes_of u.document))) × (level.holder ≡ u.holder) × (level.draft.keys.items ≡ []) × (level.draft.values.items ≡ [])

-- the new level is the old one with one more pair
abbrev pub IsOneMore : Level → List ℕ → Tree → Level → Type 0
IsOneMore old key t new =
    (new.elements ≡ old.elements) × (new.holder ≡ old.holder)
    × ((pairs : List (List ℕ × Tree)) → AreDrafted old.holder old.draft pairs → AreDrafted old.holder new.draft (pairs ++ (key, t) ∷ []))

-- the new level is the old one with one more pair, of this key and a tree that the value stands for
abbrev pub PutsValue : RawValue → Level → List ℕ → Level → Type 0
PutsValue v old key new = (t : Tree) × StandsFor ReadsAs v t × IsOneMore old key t new

-- the tree is that of a value whose bytes are read as this content, with the same number of levels
abbrev pub ClosesAs : Contents → Bson → Type 0
ClosesAs c t = (levels : ℕ) (d : List ℕ) → ReadsUpTo levels (sort_of (holder_of c)) d (tree_of_contents c) → StandsFor (ReadsUpTo levels) (holding (holder_of c) d) (tree_of t)

-- the content is that of the drafted pairs
abbrev pub Finishes : Holder → Draft → Contents → Type 0
Finishes h d c = (holder_of c ≡ h) × ((pairs : List (List ℕ × Tree)) → AreDrafted h d pairs → tree_of_contents c ≡ tree_of_pairs (sort_of h) pairs)

-- the tree is that of a value whose bytes are read as the drafted pairs
abbrev pub DraftsTree : Holder → Draft → Bson → Type 0
DraftsTree h d t =
    (pairs : List (List ℕ × Tree)) (levels : ℕ) (b : List ℕ) → AreDrafted h d pairs → ReadsUpTo levels (sort_of h) b (tree_of_pairs (sort_of h) pairs)
    → StandsFor (ReadsUpTo levels) (holding h b) (tree_of t)

-- the level that waits for this value has it under its key
abbrev pub PutsLevel : Level → Waiting → Waiting → Type 0
PutsLevel inner old new = (t : Bson) × DraftsTree inner.holder inner.draft t × IsOneMore old.level old.key.now (tree_of t) new.level

-- the held bytes are read as this content
abbrev pub AreRead : Holder → List ℕ → Contents → Type 0
AreRead h b c = (holder_of c ≡ h) × ReadsAs (sort_of h) b (tree_of_contents c)

-- the held bytes are read as this content, and have at most this many levels
abbrev pub AreReadUpTo : ℕ → Holder → List ℕ → Contents → Type 0
AreReadUpTo levels h b c = (holder_of c ≡ h) × ReadsUpTo levels (sort_of h) b (tree_of_contents c)

-- what a result of reading b to a depth says of the number of counted frames, unless a level was too deep
abbrev pub TellsFramesWithin : {X : Type 0} → ℕ → List ℕ → Result X Error → ℕ → Type 0
TellsFramesWithin depth b result n = FirstFaultWithin depth b too_deep ⊎ TellsFrames b result n

-- what a call returns that reads these nested bytes to a depth and counts n frames
abbrev pub TellsReading : ℕ → RawLevel → Result Contents Error → ℕ → Type 0
TellsReading depth u result n =
    IfOk result (AreReadUpTo depth u.holder (bytes_of u.document)) × IfErr result (TellsFirstFaultWithin depth (bytes_of u.document))
    × TellsFramesWithin depth (bytes_of u.document) result n
