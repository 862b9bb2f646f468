use Rattle.bson_to_json.proofs.Common.{Appends, int64_json, signed_decimal}
use Rattle.std.proofs.Common.{rules, ◌≡◌, ◌++◌, ℕ, List, OnOk, codes, sym, subst}
use Rattle.bson_to_json.specs.declared.style.Format.{Format}
use Rattle.bson_to_json.proofs.leaf.put_int64.Goals as goal

pub returns-in-Canonical : goal.returns-in-Canonical
returns-in-Canonical g c =
    let old = g.W.Write.contents c.args.out.now in
    let new = g.W.Write.contents c.put_between.new.out in
    let r = c.put_between.result in
    let same : c.format-text.result.now ≡ signed_decimal c.args.number = search rules in
    subst (λ (f : Format). OnOk r (Appends old new (int64_json f c.args.number))) (sym c.in-Canonical.is)
    (subst (λ (t : List ℕ). OnOk r (Appends old new (codes "{\"$numberLong\":\"" ++ (t ++ codes "\"}")))) same c.put_between.ensures)
