use Rattle.std.proofs.Common.{◌≡◌, ◌++◌, ℕ, List, codes, ap, ◌∙◌, decimal}
use Rattle.bson_to_json.specs.Leaves.{timestamp_json}
use Rattle.bson_to_json.proofs.Puts.{joined, last_put}
use Rattle.bson_to_json.proofs.leaf.put_timestamp.Goals as goal

pub returns : goal.returns
returns g c =
    let A = codes "{\"$timestamp\":{\"t\":" in
    let B = codes ",\"i\":" in
    let whole = λ (t i : List ℕ). A ++ (t ++ (B ++ (i ++ codes "}}"))) in
    let t = c.format.result.now in
    let i = c.format-2.result.now in
    let Y = i ++ codes "}}" in
    let e : (A ++ (t ++ B)) ++ Y ≡ timestamp_json c.args.time.time c.args.time.increment =
    joined A t B Y ∙ ap (λ (x : List ℕ). whole x i) c.format.ensures.text ∙ ap (λ (x : List ℕ). whole (decimal c.args.time.time) x) c.format-2.ensures.text in
    last_put c.put_between-2.result (g.W.Write.contents c.args.out.now) (g.W.Write.contents c.put_between.new.out) (g.W.Write.contents c.put_between-2.new.out)
    (A ++ (t ++ B)) Y _ c.in_ok-put_between.ensures e c.put_between-2.ensures
