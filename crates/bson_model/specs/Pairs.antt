-- Pairs of a key and a value, in order.
use Rattle.std.specs.Prelude.{ℕ, List, [], ◌∷◌, Option, None, Some, if◌then◌else◌, not, map, filter, reverse, option_map}
use Rattle.std.specs.List.{IsDistinct, filter_map}
use Rattle.std.specs.Str.{bytes_eq}

-- the keys without their repeats, each in its first place
abbrev pub first_keys : List (List ℕ) → List (List ℕ)
first_keys [] = []
first_keys (key ∷ keys) = key ∷ filter (λ other. not (bytes_eq key other)) (first_keys keys)

module _ {T : Type 0} where
  -- the keys in order, repeats kept
  abbrev pub keys_of : List (List ℕ × T) → List (List ℕ)
  keys_of pairs = map (λ p. p.0) pairs

  -- the value of the first pair with this key
  abbrev pub value_at : List ℕ → List (List ℕ × T) → Option T
  value_at key [] = None
  value_at key (pair ∷ pairs) = if bytes_eq key pair.0 then Some pair.1 else value_at key pairs

  -- the value of the last pair with this key
  abbrev pub last_value_at : List ℕ → List (List ℕ × T) → Option T
  last_value_at key pairs = value_at key (reverse pairs)

  -- a key that is there keeps its place and gets the value; a new one goes last
  abbrev pub with_pair : List ℕ → T → List (List ℕ × T) → List (List ℕ × T)
  with_pair key value [] = (key, value) ∷ []
  with_pair key value (pair ∷ pairs) = if bytes_eq key pair.0 then (pair.0, value) ∷ pairs else pair ∷ with_pair key value pairs

  -- no key occurs twice
  abbrev pub HasDistinctKeys : List (List ℕ × T) → Type 0
  HasDistinctKeys pairs = IsDistinct bytes_eq (keys_of pairs)

  -- the keys in the order in which each first comes, each with its last value
  abbrev pub keep : List (List ℕ × T) → List (List ℕ × T)
  keep pairs = filter_map (λ key. option_map (λ value. (key, value)) (last_value_at key pairs)) (first_keys (keys_of pairs))
