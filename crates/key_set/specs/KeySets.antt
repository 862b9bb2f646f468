-- The keys of a document that were met so far.
use Rattle.std.specs.Prelude.{◌≡◌, ◌⊎◌, ◌<◌, ◌++◌, ◌∷◌, [], ℕ, List, Option, length, position}
use Rattle.std.specs.Cmp.Lexicographic.{slice_cmp}
use Rattle.std.specs.List.{IsDistinct}
use Rattle.std.specs.Ordering.{nat_cmp}
use Rattle.std.specs.Str.{bytes_eq}
use Rattle.std.specs.declared.cmp.Ordering.TheVariants.{Less}
use denote.Ref.{Bor}
use Rattle.key_set.specs.IndexedKeys.{with_key}
use Rattle.key_set.specs.KeyFilter.{AreInFilter}
use Rattle.key_set.specs.References.{texts}
use Rattle.key_set.specs.declared.key_set.KeySet.{KeySet}
use Rattle.key_set.specs.declared.key_set.KeySet.TheVariants as keys

-- the second key is longer than the first, or as long and greater byte by byte
abbrev pub IsLaterKey : List ℕ → List ℕ → Type 0
IsLaterKey last key = (length last < length key) ⊎ ((length last ≡ length key) × (slice_cmp nat_cmp last key ≡ Less))

-- each of these keys is longer than the one before it, or as long and greater
abbrev pub AreAscending : List (List ℕ) → Type 0
AreAscending [] = Unit {0}
AreAscending (key ∷ []) = Unit {0}
AreAscending (key ∷ next ∷ keys) = IsLaterKey key next × AreAscending (next ∷ keys)

-- the key is longer than the last of these, or as long and greater
abbrev pub IsBehindLast : List (List ℕ) → List ℕ → Type 0
IsBehindLast [] key = Unit {0}
IsBehindLast (last ∷ []) key = IsLaterKey last key
IsBehindLast (first ∷ next ∷ keys) key = IsBehindLast (next ∷ keys) key

-- a document's own keys are in the list from this place on, each once; before them are those of the outer levels
abbrev pub HasListed : ℕ → List (Bor (List ℕ)) → List (List ℕ) → List (List ℕ) → Type 0
HasListed first listed below own = IsDistinct bytes_eq own × (first ≡ length below) × (texts listed ≡ below ++ own)

-- a document's own keys, each once, are in the list after those of the outer levels, or in an index
abbrev pub HasKeys : KeySet → List (Bor (List ℕ)) → List (List ℕ) → List (List ℕ) → Type 0
HasKeys (keys.Ascending first) listed below own = IsDistinct bytes_eq own × (first ≡ length below) × (texts listed ≡ below ++ own) × AreAscending own
HasKeys (keys.Listed first filter) listed below own = IsDistinct bytes_eq own × (first ≡ length below) × (texts listed ≡ below ++ own) × AreInFilter filter own
HasKeys (keys.Indexed set) listed below own = IsDistinct bytes_eq own × (texts listed ≡ below) × (set.value ≡ own)

-- these are the keys of some document
abbrev pub AreKeys : KeySet → List (Bor (List ℕ)) → Type 0
AreKeys set listed = (below : List (List ℕ)) × (own : List (List ℕ)) × HasKeys set listed below own

-- the place is that of the key among the document's own keys; if it has none, the key becomes the last of them
pub record TellsPlace (below own : List (List ℕ)) (key : List ℕ) (set : KeySet) (listed : List (Bor (List ℕ))) (place : Option ℕ) : Type 0 where
  pub place_is : place ≡ position (bytes_eq key) own
  pub keys : HasKeys set listed below (with_key own key place)

-- `TellsPlace` holds whatever the keys of the document are
abbrev pub AddsKey : KeySet → List (Bor (List ℕ)) → List ℕ → KeySet → List (Bor (List ℕ)) → Option ℕ → Type 0
AddsKey old before key new after place = (below own : List (List ℕ)) → HasKeys old before below own → TellsPlace below own key new after place

-- `TellsPlace` holds of the keys from this place of the list on
abbrev pub MovesKeys : ℕ → List (Bor (List ℕ)) → List ℕ → KeySet → List (Bor (List ℕ)) → Option ℕ → Type 0
MovesKeys first before key new after place = (below own : List (List ℕ)) → HasListed first before below own → TellsPlace below own key new after place

-- the document's own keys are removed from the list
abbrev pub LeavesKeys : KeySet → List (Bor (List ℕ)) → List (Bor (List ℕ)) → Type 0
LeavesKeys set before after = (below own : List (List ℕ)) → HasKeys set before below own → texts after ≡ below
