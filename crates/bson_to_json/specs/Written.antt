-- What a writer holds that failed before it had all of a text.
use Rattle.std.specs.Prelude.{◌≡◌, ℕ, List, ◌++◌, Option}
use Rattle.std.specs.Io.KnownBytes.{Appends}
use Rattle.bson_to_json.specs.Json.{IsJson}
use Rattle.bson_to_json.specs.declared.style.Style.{Style}

-- the writer's known bytes have grown by a prefix of the text
pub record AppendsFront (old new : Option (List ℕ)) (text : List ℕ) : Type 0 where
  pub front : List ℕ
  pub behind : List ℕ
  pub whole : text ≡ front ++ behind
  pub put : Appends old new front

-- the writer's known bytes have grown by a prefix of a text of the document b
abbrev pub WroteFront : Style → List ℕ → Option (List ℕ) → Option (List ℕ) → Type 0
WroteFront style b old new = (text : List ℕ) × IsJson style b text × AppendsFront old new text

-- Helpers for a block that is being written. No public contract cites them.

-- What takes a text was given these bytes. `has` says of such a value that it keeps texts of at most this many bytes, and which text it was
-- given.
abbrev pub Grows : {S : Type 0} → (S → ℕ → List ℕ → Type 0) → S → S → List ℕ → Type 0
Grows has old new bs = (most : ℕ) (text : List ℕ) → has old most text → has new most (text ++ bs)

-- the same, of a prefix of them
pub record GrowsFront {S : Type 0} (has : S → ℕ → List ℕ → Type 0) (old new : S) (text : List ℕ) : Type 0 where
  pub front : List ℕ
  pub behind : List ℕ
  pub whole : text ≡ front ++ behind
  pub put : Grows has old new front

-- what takes a text was given a prefix of a text of the document b
abbrev pub HasFront : {S : Type 0} → (S → ℕ → List ℕ → Type 0) → Style → List ℕ → S → S → Type 0
HasFront has style b old new = (text : List ℕ) × IsJson style b text × GrowsFront has old new text

-- the first bytes of the block were given; these are left
pub record Moves {S : Type 0} (has : S → ℕ → List ℕ → Type 0) (old new : S) (block left : List ℕ) : Type 0 where
  pub moved : List ℕ
  pub whole : block ≡ moved ++ left
  pub put : Grows has old new moved
