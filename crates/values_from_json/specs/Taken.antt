-- What was taken of the tokens of a text.
use Rattle.std.specs.Prelude.{◌≡◌, ◌⊎◌, [], ◌∷◌, ◌++◌, ℕ, List, codes}
use Rattle.bson_model.specs.Leaf.{Leaf}
use Rattle.json.specs.Json.{Json, Members, member, object, string}
use Rattle.json.specs.Token.{Token, bad}
use Rattle.json.specs.Tree.{json_tokens, members_tokens}
use Rattle.values_from_json.specs.Wrapped.{AreTwo, IsWrapped, WritesOne, one_member}

-- one token
abbrev pub TakesToken : List Token → List Token → Token → Type 0
TakesToken old new token = old ≡ token ∷ new

-- the tokens of a JSON value that writes this value
abbrev pub Takes : (Json → Leaf → Type 0) → List Token → List Token → Leaf → Type 0
Takes Writes old new l = (j : Json) × (old ≡ json_tokens j ++ new) × Writes j l

-- the tokens of an object of two members in either order
abbrev pub TakesTwo : List Token → List Token → List ℕ → Json → List ℕ → Json → Type 0
TakesTwo old new key j key' j' = (ms : Members) × (old ≡ json_tokens (object ms) ++ new) × AreTwo key j key' j' ms

-- what follows the first key of an object that writes this value, to its brace
abbrev pub TakesRest : List ℕ → List Token → List Token → Leaf → Type 0
TakesRest first old new l = (j : Json) × (ms : Members) × (old ≡ json_tokens j ++ (members_tokens ms ++ new)) × WritesOne (member first j ms) l

-- JSON has no such tokens at the front
abbrev pub NoToken : List Token → Type 0
NoToken ts = (ts ≡ []) ⊎ ((rest : List Token) × (ts ≡ bad ∷ rest))

-- this token isn't first
abbrev pub LacksToken : List Token → Token → Type 0
LacksToken ts token = (rest : List Token) → ¬ TakesToken ts rest token

-- this JSON value isn't first
abbrev pub LacksJson : List Token → Json → Type 0
LacksJson ts j = (rest : List Token) → ¬ (ts ≡ json_tokens j ++ rest)

-- no JSON value that writes a value is first
abbrev pub TakesNone : (Json → Leaf → Type 0) → List Token → Type 0
TakesNone Writes ts = (j : Json) (l : Leaf) → Writes j l → LacksJson ts j

-- nothing that follows the first key of such an object is first
abbrev pub TakesNoRest : List ℕ → List Token → Type 0
TakesNoRest first ts = (l : Leaf) (rest : List Token) → ¬ TakesRest first ts rest l

-- nor an object of these two members, in either order
abbrev pub TakesNoTwo : List Token → List ℕ → Json → List ℕ → Json → Type 0
TakesNoTwo ts key j key' j' = (ms : Members) → AreTwo key j key' j' ms → LacksJson ts (object ms)

-- no value of a wrapper with this key is next
pub record LacksLeaf (wrapper : List ℕ) (ts : List Token) : Type 0 where
  pub none : TakesNone (IsWrapped wrapper) ts

-- {"$oid": digits}
abbrev pub pointed : List ℕ → Json
pointed digits = object (one_member (codes "$oid") (string digits))
