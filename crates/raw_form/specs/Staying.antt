-- Which frames of a level stay in the canonical form, and what is left of a level that is being rewritten. No public contract cites this
-- file.
use Rattle.std.specs.Prelude.{◌≡◌, ◌+◌, ◌<◌, ◌≤◌, ◌++◌, ℕ, Bool, IsTrue, List, [], ◌∷◌, Option, None, Some, drop, length, slice_set}
use Rattle.std.specs.List.{IsDistinct}
use Rattle.std.specs.Str.{bytes_eq}
use Rattle.bson_model.specs.Pairs.{keep, keys_of}
use Rattle.bson_model.specs.Tree.{Tree, Entries, no_entry, entry_then, entries}
use Rattle.raw_view.specs.Document.{bytes_of}
use Rattle.raw_view.specs.Frame.ElementSteps.{frame_of}
use Rattle.raw_view.specs.Frame.{Frame, IsFrame, LeadsTo}
use Rattle.raw_view.specs.declared.element.RawElement.{RawElement}
use Rattle.raw_view.specs.declared.element_type.ElementType.{ElementType}
use Rattle.raw_tree.specs.Canonical.{IsCanonicalUpTo}
use Rattle.raw_tree.specs.Encoding.{kind_of_tree, tree_payload}
use Rattle.raw_tree.specs.Reading.{FrameStandsFor, as_document}
use Rattle.raw_tree.specs.Looking.{HasNoneBefore}
use Rattle.raw_tree.specs.declared.walk.faults.Start.{Start}
use Rattle.raw_form.specs.declared.last.LastPlaces.{LastPlaces}

-- the place replaces the one with this number, or comes last
abbrev pub put_at : Option ℕ → ℕ → List ℕ → List ℕ
put_at None place places = places ++ place ∷ []
put_at (Some n) place places = slice_set places n place

-- frames that are written as they are

-- the tree is written as an element of this kind with this payload
abbrev pub IsWrittenAs : ElementType → List ℕ → Tree → Type 0
IsWrittenAs k p t = (tree_payload t ≡ p) × (kind_of_tree t ≡ k)

-- the tree of the frame is written as the frame is
abbrev pub IsOwnForm : Frame → Type 0
IsOwnForm f = (t : Tree) → FrameStandsFor f t → IsWrittenAs f.kind f.payload t

-- the next n frames are written as they are
abbrev pub AreNextOwn : ℕ → List ℕ → Type 0
AreNextOwn n s = (frames : List Frame) (q : List ℕ) (f : Frame) (r : List ℕ) → LeadsTo s frames q → IsFrame q f r → length frames < n → IsOwnForm f

-- the frames of the outermost level of the document d that begin before this offset are written as they are
abbrev pub AreOwnBefore : ℕ → List ℕ → Type 0
AreOwnBefore known d = (frames : List Frame) (s : List ℕ) (f : Frame) (r : List ℕ) → LeadsTo (drop 4 d) frames s → IsFrame s f r → length d < known + length s → IsOwnForm f

-- the frames before the start in the document d are written as they are
pub record IsOwnUpTo (d : List ℕ) (start : Start) : Type 0 where
  pub next : AreNextOwn start.number (drop 4 d)
  pub before : AreOwnBefore start.offset d

-- the document b is canonical; or no element before this one has a barrier, and their trees are written as they are
abbrev pub TellsStart : ℕ → List ℕ → Option Start → Type 0
TellsStart depth b None = IsCanonicalUpTo depth as_document b
TellsStart depth b (Some start) = HasNoneBefore depth b start.number start.offset × IsOwnUpTo b start

-- a document with repeated keys

-- a frame of the outermost level is at this place of the document; it has this key and stands for this tree
pub record IsFrameAt (d : List ℕ) (place : ℕ) (key : List ℕ) (t : Tree) : Type 0 where
  pub passed : List Frame
  pub f : Frame
  pub r : List ℕ
  pub reaches : LeadsTo (drop 4 d) passed (drop place d)
  pub frame : IsFrame (drop place d) f r
  pub stands : FrameStandsFor f t
  pub key_is : f.key ≡ key
  pub least : 4 ≤ place
  pub within : place ≤ length d

-- frames at these places stand for the pairs, in this order
abbrev pub AreFramesAt : List ℕ → List ℕ → List (List ℕ × Tree) → Type 0
AreFramesAt d [] [] = Unit {0}
AreFramesAt d (place ∷ places) (p ∷ pairs) = IsFrameAt d place p.0 p.1 × AreFramesAt d places pairs
AreFramesAt d _ _ = ⊥

-- no key is repeated among the pairs of the document; or the pairs that its tree keeps are at these places
abbrev pub HasLastPlaces : Option (List ℕ) → List ℕ → List (List ℕ × Tree) → Type 0
HasLastPlaces None d pairs = IsDistinct bytes_eq (keys_of pairs)
HasLastPlaces (Some places) d pairs = AreFramesAt d places (keep pairs)

-- these members are still to be written; frames that begin before an offset are written as they are
abbrev pub IsLeftAt : LastPlaces → Entries → Type 0
IsLeftAt last ms =
    (pairs : List (List ℕ × Tree)) × AreFramesAt (bytes_of last.document) (drop last.passed last.places.items) pairs × (ms ≡ entries pairs)
    × AreOwnBefore last.known (bytes_of last.document)

-- no member is left; or the element is that of the first, and the others are left; if it is marked as known, it is written as it is
abbrev pub TakesMember : Entries → Option (RawElement × Bool) → LastPlaces → Type 0
TakesMember ms None last = ms ≡ no_entry
TakesMember ms (Some (e, is_known)) last =
    (t : Tree) × (rest : Entries) × (ms ≡ entry_then (frame_of e).key t rest) × FrameStandsFor (frame_of e) t × IsLeftAt last rest
    × (IsTrue is_known → IsOwnForm (frame_of e))
