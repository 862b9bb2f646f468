-- The documents and arrays that are the same after they are read and written. The bytes b of a document or of an array
-- have an envelope.
use Rattle.std.specs.Prelude.{◌≡◌, ◌+◌, ℕ, suc, zero, List, [], ◌∷◌, drop, map, decimal}
use Rattle.std.specs.List.{IsDistinct}
use Rattle.std.specs.Str.{bytes_eq}
use Rattle.bson_model.specs.Proper.{DoLeafOptionsAscend}
use Rattle.raw_view.specs.Frame.{Frame, IsWalk, Done}
use Rattle.raw_view.specs.Meaning.{RawValue, Means, value}
use Rattle.raw_view.specs.Meaning as raw
use Rattle.raw_tree.specs.reader.Reading.{Sort, as_document, as_array}

-- these are the decimals from n on, in order
abbrev pub AreDecimalsFrom : ℕ → List (List ℕ) → Type 0
AreDecimalsFrom n [] = Unit {0}
AreDecimalsFrom n (key ∷ keys) = (key ≡ decimal n) × AreDecimalsFrom (n + 1) keys

-- in a document no key occurs twice; in an array the keys are the decimals from 0 on, in order
abbrev pub AreKeysCanonical : Sort → List (List ℕ) → Type 0
AreKeysCanonical as_document keys = IsDistinct bytes_eq keys
AreKeysCanonical as_array keys = AreDecimalsFrom 0 keys

-- canonical values and frames; `Nested` says which nested bytes are canonical
module _ (Nested : Sort → List ℕ → Type 0) where
  -- the options of a regular expression ascend, and nested bytes are canonical
  abbrev pub IsValueCanonical : RawValue → Type 0
  IsValueCanonical (raw.single l) = DoLeafOptionsAscend l
  IsValueCanonical (raw.document d) = Nested as_document d
  IsValueCanonical (raw.array d) = Nested as_array d
  IsValueCanonical (raw.scoped code d) = Nested as_document d

  -- each frame means a value, which is canonical
  abbrev pub AreFramesCanonical : List Frame → Type 0
  AreFramesCanonical [] = Unit {0}
  AreFramesCanonical (f ∷ fs) = (v : RawValue) × Means f (value v) × IsValueCanonical v × AreFramesCanonical fs

-- The bytes have at most n levels. Their walk ends at the final 0, its keys are canonical, and so is the value of each
-- frame.
abbrev pub IsCanonicalUpTo : ℕ → Sort → List ℕ → Type 0
IsCanonicalUpTo zero sort b = ⊥
IsCanonicalUpTo (suc n) sort b = (frames : List Frame) × IsWalk (drop 4 b) frames Done × AreKeysCanonical sort (map (λ f. f.key) frames) × AreFramesCanonical (IsCanonicalUpTo n) frames

-- these bytes are canonical as a document, or as an array
abbrev pub IsCanonicalAs : Sort → List ℕ → Type 0
IsCanonicalAs sort b = (levels : ℕ) × IsCanonicalUpTo levels sort b

-- the document b is canonical
abbrev pub IsCanonical : List ℕ → Type 0
IsCanonical b = IsCanonicalAs as_document b
