use Rattle.std.proofs.Common.{rules, ◌≡◌, ◌≤◌, ◌∙◌, List, ℕ, length, subst, sym}
use Rattle.bson_model.specs.Scalars.{bytes_of_decimal128}
use Rattle.bson_to_json.proofs.Common.{decimal128_text, decimal_text}
use Rattle.bson_to_json.proofs.Lengths.{decimal128_short}
use Rattle.bson_to_json.proofs.ShortTexts.{begun}
use Rattle.bson_to_json.proofs.decimals.decimal128_text.Goals as goal

pub returns : goal.returns
returns c =
    let bytes = bytes_of_decimal128 c.args.number in
    let is : decimal_text c.parts_of.result ≡ decimal128_text bytes = search rules in
    begun (decimal_text c.parts_of.result) c.new.ensures c.with_parts.ensures (subst (λ (l : List ℕ). length l ≤ 42) (sym is) (decimal128_short bytes)) ∙ is
