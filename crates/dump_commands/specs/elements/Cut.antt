-- A document without the elements that paths name; or with these alone, in the documents and arrays into which paths lead. A path names each
-- element to which it leads: it is the keys on the way there, the outermost first, with dots between them. In place of the key of an array's
-- item two brackets may stand.
use Rattle.std.specs.Prelude.{◌≡◌, ◌+◌, ℕ, suc, zero, List, [], ◌∷◌, ◌++◌, Bool, true, false, bytes_eq, codes, cond, decimal, drop, flat_map, length, map, nat_eq, take}
use Rattle.std.specs.List.{list_any}
use denote.Ref.{Bor}
use Rattle.raw_view.specs.Frame.{Done, Frame, IsWalk}
use Rattle.raw_view.specs.Frame.Format.{element_of, framed}
use Rattle.raw_view.specs.declared.element_type.ElementType.{ElementType}
use Rattle.raw_view.specs.declared.element_type.ElementType.TheVariants as kind
use Rattle.dump_commands.specs.elements.Pick.{comma, dot, parts}
use Rattle.dump_commands.specs.declared.elements.cut.Fate as code
use Rattle.dump_commands.specs.declared.elements.cut.Fate.TheVariants as fate

-- the steps of paths that stand for an element with this key
abbrev pub steps_of : (in_array : Bool) → (key : List ℕ) → List (List ℕ)
steps_of in_array key = key ∷ cond in_array (codes "[]" ∷ []) []

-- whether a path is one of these steps
abbrev pub is_named : (steps paths : List (List ℕ)) → Bool
is_named steps paths = list_any (λ step. list_any (bytes_eq step) paths) steps

-- what is after a dot at the front
abbrev pub behind_dot : List ℕ → List (List ℕ)
behind_dot [] = []
behind_dot (byte ∷ rest) = cond (nat_eq byte dot) (rest ∷ []) []

-- what is after a step and a dot in a path that begins with them
abbrev pub onward : (step path : List ℕ) → List (List ℕ)
onward step path = cond (bytes_eq (take (length step) path) step) (behind_dot (drop (length step) path)) []

-- the paths that lead on from an element with one of these steps
abbrev pub onwards : (steps paths : List (List ℕ)) → List (List ℕ)
onwards steps paths = flat_map (λ step. flat_map (onward step) paths) steps

-- what becomes of an element: it stays as it is; it is left out; or it stays, and these paths lead on to what is inside it
pub data Fate : Type 0 where
  stays : Fate
  goes : Fate
  opens : (paths : List (List ℕ)) → Fate

-- what becomes of an element that no path leads to, where the others stay or not
abbrev pub fate_of_others : (others : Bool) → Fate
fate_of_others true = stays
fate_of_others false = goes

-- what becomes of one that is named
abbrev pub fate_of_named : (others : Bool) → Fate
fate_of_named true = goes
fate_of_named false = stays

-- what becomes of one with a value of this kind, from which these paths lead on
abbrev pub fate_of_unnamed : (others : Bool) → ElementType → (paths : List (List ℕ)) → Fate
fate_of_unnamed others kind.EmbeddedDocument (path ∷ paths) = opens (path ∷ paths)
fate_of_unnamed others kind.Array (path ∷ paths) = opens (path ∷ paths)
fate_of_unnamed others k paths = fate_of_others others

abbrev pub fate_of : (others in_array : Bool) → (paths : List (List ℕ)) → Frame → Fate
fate_of others in_array paths f =
    let steps = steps_of in_array f.key in
    cond (is_named steps paths) (fate_of_named others) (fate_of_unnamed others f.kind (onwards steps paths))

-- the key of an element that stays: in an array its number among those that stay
abbrev pub key_at : (in_array : Bool) → (number : ℕ) → (key : List ℕ) → List ℕ
key_at true number key = decimal number
key_at false number key = key

-- the number of the next element that stays
abbrev pub number_behind : Fate → ℕ → ℕ
number_behind goes number = number
number_behind _ number = number + 1

-- whether a value of this kind is an array
abbrev pub is_array : ElementType → Bool
is_array kind.Array = true
is_array k = false

-- The elements of a level, where Nested says what nested bytes become, which are an array or not, and from which these paths lead on.
module _ (Nested : Bool → List (List ℕ) → List ℕ → List ℕ → Type 0) where
  -- what is written of an element under this key
  abbrev pub IsCutElement : Fate → (key : List ℕ) → Frame → List ℕ → Type 0
  IsCutElement stays key f bytes = bytes ≡ element_of f.kind key f.payload
  IsCutElement goes key f bytes = bytes ≡ []
  IsCutElement (opens paths) key f bytes = (value : List ℕ) × Nested (is_array f.kind) paths f.payload value × (bytes ≡ element_of f.kind key value)

  -- what is written of elements one after the other, the first of which has this number if it stays
  abbrev pub AreCut : (others in_array : Bool) → (paths : List (List ℕ)) → (number : ℕ) → List Frame → List ℕ → Type 0
  AreCut others in_array paths number [] bytes = bytes ≡ []
  AreCut others in_array paths number (f ∷ fs) bytes =
      (first rest : List ℕ) × IsCutElement (fate_of others in_array paths f) (key_at in_array number f.key) f first
      × AreCut others in_array paths (number_behind (fate_of others in_array paths f) number) fs rest × (bytes ≡ first ++ rest)

-- What the bytes b of a document or an array become, inside which paths lead over at most this number of levels.
abbrev pub IsCut : (others : Bool) → ℕ → (in_array : Bool) → (paths : List (List ℕ)) → (b cut : List ℕ) → Type 0
IsCut others zero in_array paths b cut = cut ≡ b
IsCut others (suc n) in_array paths b cut =
    (frames : List Frame) × (elements : List ℕ) × IsWalk (drop 4 b) frames Done × AreCut (IsCut others n) others in_array paths 0 frames elements
    × (cut ≡ framed elements)

-- the document b without the elements that the paths of this text name, where the others stay; or with these alone, in the documents and
-- arrays into which paths lead, which stay if they have none of these, too. No path leads over more levels than the text has bytes, and one
-- more.
abbrev pub IsCutAt : (others : Bool) → (b text document : List ℕ) → Type 0
IsCutAt others b text document = IsCut others (suc (length text)) false (parts comma text) b document

-- What the code tells. No public contract cites what follows.

-- texts of the code
abbrev pub texts_of : List (Bor (List ℕ)) → List (List ℕ)
texts_of texts = map (λ text. text.now) texts

-- what the code says becomes of an element
abbrev pub comes_of : code.Fate → Fate
comes_of fate.Stays = stays
comes_of fate.Goes = goes
comes_of (fate.Opens paths) = opens (texts_of paths.items)
