-- The tokens of a value don't begin with those of another.
use Rattle.std.proofs.Common.{◌≡◌, ◌+◌, ◌∷◌, ◌++◌, ◌∙◌, List, Option, Some, None, sym, ap, arith}
use Rattle.json.specs.Json.{Json, value}
use Rattle.json.specs.Token.{Token}
use Rattle.json.specs.Tree.{json_tokens, depth}
use Rattle.json.proofs.Printed.Trees.{value-json_tokens}

abbrev first_or : Option (Json × List Token) → Json → Json
first_or None j = j
first_or (Some p) j = p.0

abbrev second_or : Option (Json × List Token) → List Token → List Token
second_or None ts = ts
second_or (Some p) ts = p.1

pub same_value : (j k : Json) (a b : List Token) → json_tokens j ++ a ≡ json_tokens k ++ b → (j ≡ k) × (a ≡ b)
same_value j k a b e =
    let d = depth j + depth k in
    let x = value-json_tokens j d a (omega arith) in
    let y = value-json_tokens k d b (omega arith) in
    let is = sym x ∙ ap (value d) e ∙ y in
    (ap (λ (o : Option (Json × List Token)). first_or o j) is, ap (λ (o : Option (Json × List Token)). second_or o a) is)
