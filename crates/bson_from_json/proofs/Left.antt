-- How many tokens remain after some were taken.
use Rattle.std.proofs.Common.{◌≡◌, ◌∷◌, ◌++◌, ◌<◌, ◌≤◌, ℕ, List, ap, arith, length, length-append}
use Rattle.json.specs.Token.{Token}
use Rattle.json.specs.Tree.{json_tokens}
use Rattle.bson_from_json.specs.Left.{left_of}
use Rattle.bson_from_json.specs.Levels.{TakesLeaf}
use Rattle.bson_from_json.specs.declared.reading.Reader.{Reader}

pub one_taken : (t : Token) (old new : List Token) → old ≡ t ∷ new → length new < length old
one_taken t old new h = omega (arith, ap length h)

pub some_taken : (front old new : List Token) → old ≡ front ++ new → length new ≤ length old
some_taken front old new h = omega (arith, ap length h, length-append front new)

pub leaf_less : {old new : Reader} {wrapper k : List ℕ} → TakesLeaf old new wrapper k → left_of new ≤ left_of old
leaf_less {old} {new} h = some_taken (json_tokens h.json) old.source.tokens new.source.tokens h.tokens
