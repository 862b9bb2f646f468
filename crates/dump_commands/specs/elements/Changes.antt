-- The paths at which two documents differ, and how they are shown.
use Rattle.std.specs.Prelude.{◌≡◌, ◌-◌, ◌&&◌, ◌||◌, ℕ, zero, suc, List, [], ◌∷◌, ◌++◌, Bool, false, true, not, Vec, bytes_eq, codes, cond, decimal, drop, flat_map, fold, length, map, nat_eq, nat_lt}
use Rattle.std.specs.List.{filter, list_any}
use lib.Pointwise.{pointwise}
use Rattle.std.specs.declared.alloc.Global.{Global}
use Rattle.raw_view.specs.Frame.{Done, Frame, IsWalk}
use Rattle.raw_view.specs.Frame.Kind.{tag_of}
use Rattle.raw_view.specs.Meaning.{Means, RawValue, value}
use Rattle.raw_view.specs.Meaning as raw
use Rattle.raw_view.specs.declared.element_type.ElementType.{ElementType}
use Rattle.raw_view.specs.declared.element_type.ElementType.TheVariants as kind
use Rattle.dump_io.specs.lines.Quoting.{quoted, shown_text}
use Rattle.dump_commands.specs.declared.elements.changes.Changes.{Changes}

-- A value that is compared: its path, which is the keys from the outermost level on; the tag of its kind; and bytes. One with the same path,
-- tag and bytes is the same. The keys of an array are numbers: where an item is removed, the items after it have other paths.
pub record Leaf : Type 0 where
  pub path : List (List ℕ)
  pub tag : ℕ
  pub bytes : List ℕ

-- What is compared of the bytes of a value of this kind: of a document and an array nothing, as the leaves inside say all but the kind; of
-- code with scope all, so that what changes in its scope changes the code itself.
abbrev pub compared : ElementType → (payload : List ℕ) → List ℕ
compared kind.EmbeddedDocument payload = []
compared kind.Array payload = []
compared k payload = payload

-- The leaves of elements, where Nested says which leaves nested bytes have, whose elements have this path around them.
module _ (Nested : (path : List (List ℕ)) → List ℕ → List Leaf → Type 0) where
  -- the leaves inside a value with this path
  abbrev pub AreLeavesInside : (path : List (List ℕ)) → RawValue → List Leaf → Type 0
  AreLeavesInside path (raw.single l) inner = inner ≡ []
  AreLeavesInside path (raw.document d) inner = Nested path d inner
  AreLeavesInside path (raw.array d) inner = Nested path d inner
  AreLeavesInside path (raw.scoped code d) inner = Nested path d inner

  -- the leaves of the element with this path: that of its value, and then those inside
  abbrev pub AreLeavesOf : (path : List (List ℕ)) → Frame → List Leaf → Type 0
  AreLeavesOf path f leaves =
      (v : RawValue) × (inner : List Leaf) × Means f (value v) × AreLeavesInside path v inner
      × (leaves ≡ record { path = path; tag = tag_of f.kind; bytes = compared f.kind f.payload } ∷ inner)

  -- the leaves of elements of a level that has this path
  abbrev pub AreLeaves : (path : List (List ℕ)) → List Frame → List Leaf → Type 0
  AreLeaves path [] leaves = leaves ≡ []
  AreLeaves path (f ∷ fs) leaves = (first rest : List Leaf) × AreLeavesOf (path ++ f.key ∷ []) f first × AreLeaves path fs rest × (leaves ≡ first ++ rest)

-- the leaves of the bytes b, whose elements have this path around them, and which have at most n levels
abbrev pub HasLeavesAt : ℕ → (path : List (List ℕ)) → List ℕ → List Leaf → Type 0
HasLeavesAt zero path b leaves = ⊥
HasLeavesAt (suc n) path b leaves = (frames : List Frame) × IsWalk (drop 4 b) frames Done × AreLeaves (HasLeavesAt n) path frames leaves

-- the leaves of the document b, each before those inside its value
abbrev pub HasLeaves : List ℕ → List Leaf → Type 0
HasLeaves b leaves = (n : ℕ) × HasLeavesAt n [] b leaves

-- whether two leaves are the same
abbrev pub is_same : Leaf → Leaf → Bool
is_same x y = pointwise bytes_eq x.path y.path && (nat_eq x.tag y.tag && bytes_eq x.bytes y.bytes)

-- the path of a leaf, unless it is among the others
abbrev pub path_unless : (others : List Leaf) → Leaf → List (List (List ℕ))
path_unless others leaf = cond (list_any (is_same leaf) others) [] (leaf.path ∷ [])

-- the paths of the leaves that aren't among the others
abbrev pub lost : (leaves others : List Leaf) → List (List (List ℕ))
lost leaves others = flat_map (path_unless others) leaves

-- these paths, and one more, unless it is among them
abbrev pub with_new : List (List (List ℕ)) → List (List ℕ) → List (List (List ℕ))
with_new paths path = cond (list_any (pointwise bytes_eq path) paths) paths (paths ++ path ∷ [])

-- The paths of leaves that only one of two documents has, each once: first those of the old leaves that aren't among the new ones, then those
-- of the new leaves that aren't among the old ones.
abbrev pub unmatched : (old new : List Leaf) → List (List (List ℕ))
unmatched old new = fold with_new [] (lost old new ++ lost new old)

-- whether a path is inside another: it has all keys of that at its front, and then more
abbrev pub is_inside : (path outer : List (List ℕ)) → Bool
is_inside [] outer = false
is_inside (key ∷ path) [] = true
is_inside (key ∷ path) (k ∷ outer) = bytes_eq key k && is_inside path outer

-- of these paths those that are inside no other of them
abbrev pub outermost : List (List (List ℕ)) → List (List (List ℕ))
outermost paths = filter (λ path. not (list_any (is_inside path) paths)) paths

-- The paths at which documents with these leaves differ. What is added or removed whole, or is of another kind, is told by its own path alone.
abbrev pub differing : (old new : List Leaf) → List (List (List ℕ))
differing old new = outermost (unmatched old new)

-- texts, with a separator between them
abbrev pub separated : (separator : List ℕ) → List (List ℕ) → List ℕ
separated separator [] = []
separated separator (text ∷ []) = text
separated separator (text ∷ next ∷ texts) = text ++ (separator ++ separated separator (next ∷ texts))

-- a space, a comma, a dot, or a byte of a character beyond ASCII, since some of these look like a space or like nothing
abbrev pub is_separator : ℕ → Bool
is_separator byte = nat_eq byte 32 || (nat_eq byte 44 || (nat_eq byte 46 || nat_lt 127 byte))

-- whether a key is shown without quotes: it isn't empty, none of its bytes is such a separator, and it would be the same in quotes
abbrev pub is_bare : (key : List ℕ) → Bool
is_bare key = nat_lt 0 (length key) && (not (list_any is_separator key) && bytes_eq (shown_text key) key)

-- how a key is shown
abbrev pub step_shown : (key : List ℕ) → List ℕ
step_shown key = cond (is_bare key) key (quoted key)

-- how a path is shown: its keys, with dots between
abbrev pub path_shown : (path : List (List ℕ)) → List ℕ
path_shown path = separated (codes ".") (map step_shown path)

-- the texts at the front that have no more bytes together, without what separates them, than there is room for
abbrev pub fitting : (room : ℕ) → List (List ℕ) → List (List ℕ)
fitting room [] = []
fitting room (text ∷ texts) = cond (nat_lt room (length text)) [] (text ∷ fitting (room - length text) texts)

-- paths that are shown, and how many more there are
pub record Listing : Type 0 where
  pub texts : List (List ℕ)
  pub more : ℕ

-- of the paths with these texts those at the front with 65,536 bytes at most are shown
abbrev pub listing_of : List (List ℕ) → Listing
listing_of texts = record { texts = fitting 65536 texts; more = length texts - length (fitting 65536 texts) }

-- the paths at which the documents with these bytes differ
abbrev pub ListsChanges : (old new : List ℕ) → Listing → Type 0
ListsChanges old new listing =
    (olds news : List Leaf) × HasLeaves old olds × HasLeaves new news × (listing ≡ listing_of (map path_shown (differing olds news)))

-- words that tell how many more there are, if any
abbrev pub more_words : ℕ → List (List ℕ)
more_words zero = []
more_words (suc n) = (codes "and " ++ decimal (suc n) ++ codes " more") ∷ []

-- What tells these paths: all of them, with commas between. Documents that differ at no path have the same leaves; if they aren't the same,
-- these are in another order.
abbrev pub words_for : List (List ℕ) → List ℕ
words_for [] = codes "the order of elements"
words_for (text ∷ texts) = separated (codes ", ") (text ∷ texts)

abbrev pub changes_words : Listing → List ℕ
changes_words listing = words_for (listing.texts ++ more_words listing.more)

-- texts of the code
abbrev pub items_of : List (Vec ℕ Global) → List (List ℕ)
items_of texts = map (λ text. text.items) texts

-- what the code lists
abbrev pub listing_by : Changes → Listing
listing_by changes = record { texts = items_of changes.paths.items; more = changes.more }
