-- Keys with an index, and how a key is found in one.
use Rattle.std.specs.Prelude.{◌≡◌, ◌++◌, ◌∷◌, [], ℕ, List, Option, None, Some, if◌then◌else◌, position, unwrap_or}
use Rattle.std.specs.BTreeMap.{BTreeMap, get, is_at}
use Rattle.std.specs.Cmp.Lexicographic.{slice_cmp}
use Rattle.std.specs.Ordering.{nat_cmp, ordering_then}
use Rattle.std.specs.Str.{bytes_eq}
use Rattle.std.specs.declared.cmp.Ordering.{Ordering}
use denote.Ref.{Bor}
use Rattle.key_set.specs.Fingerprints.{HaveFingerprints, hash_of}
use Rattle.key_set.specs.declared.indexed_keys.Finder.{Finder}
use Rattle.key_set.specs.declared.indexed_keys.Finder.TheVariants as finder

-- the keys with `key` last, unless it had a place
abbrev pub with_key : List (List ℕ) → List ℕ → Option ℕ → List (List ℕ)
with_key keys key None = keys ++ key ∷ []
with_key keys key (Some place) = keys

-- the place is that of the key among these keys; if it has none, the key was put last
abbrev pub InsertsKey : List (List ℕ) → List ℕ → Option ℕ → List (List ℕ) → Type 0
InsertsKey before key place after = (place ≡ position (bytes_eq key) before) × (after ≡ with_key before key place)

-- the order of keys: by hash, then by text
abbrev pub key_cmp : ℕ × Bor (List ℕ) → ℕ × Bor (List ℕ) → Ordering
key_cmp x y = ordering_then (nat_cmp x.0 y.0) (slice_cmp nat_cmp x.1.now y.1.now)

-- the map has the places of these keys, and no other key
abbrev pub HasPlaces : BTreeMap (ℕ × Bor (List ℕ)) ℕ → List (List ℕ) → Type 0
HasPlaces places keys = (q : Bor (List ℕ)) → get key_cmp places (hash_of q.now, q) ≡ position (bytes_eq q.now) keys

-- the key has the place that it had in the map, or else the next; every other key keeps its place
pub record GivesPlace (old : BTreeMap (ℕ × Bor (List ℕ)) ℕ) (hash : ℕ) (key : Bor (List ℕ)) (next place : ℕ) (new : BTreeMap (ℕ × Bor (List ℕ)) ℕ) : Type 0 where
  pub place_is : place ≡ unwrap_or (get key_cmp old (hash, key)) next
  pub gives : (q : ℕ × Bor (List ℕ)) → get key_cmp new q ≡ (if is_at (key_cmp (hash, key)) q then Some place else get key_cmp old q)

-- each of the keys is found by these fingerprints, or in this map
abbrev pub Finds : Finder → List (List ℕ) → Type 0
Finds (finder.Hashed fingerprints) keys = HaveFingerprints fingerprints keys
Finds (finder.Ordered places) keys = HasPlaces places keys
