-- The keys of a document, as texts in the order in which they came.
use Rattle.std.specs.Prelude.{ℕ, Bool, List, [], ◌∷◌, ◌++◌, String, if◌then◌else◌}
use Rattle.std.specs.List.{IsDistinct, list_any}
use Rattle.std.specs.Str.{bytes_eq}
use Rattle.std.specs.String.{string_bytes}
use Rattle.std.specs.declared.alloc.Global.{Global}
use Rattle.bson_model.specs.declared.keys.Held.{Held}
use Rattle.bson_model.specs.declared.keys.Held.TheVariants.{Few, Many}

-- the held texts, in a list or in a set
abbrev pub texts_of : Held → List (String Global)
texts_of (Few texts) = texts.items
texts_of (Many set) = set.keys

-- whether a text has these bytes
abbrev pub has_bytes : List ℕ → String Global → Bool
has_bytes bytes text = bytes_eq bytes (string_bytes text)

-- whether a text among these has these bytes
abbrev pub is_among : List ℕ → List (String Global) → Bool
is_among bytes texts = list_any (has_bytes bytes) texts

-- the texts, with one more at the end unless it is there
abbrev pub with_text : String Global → List (String Global) → List (String Global)
with_text text texts = if is_among (string_bytes text) texts then texts else texts ++ text ∷ []

-- no text occurs twice
abbrev pub AreDistinct : List (String Global) → Type 0
AreDistinct texts = IsDistinct (λ k l. bytes_eq (string_bytes k) (string_bytes l)) texts
