use Rattle.bson_to_json.proofs.Common.{quoted, regex_json}
use Rattle.std.proofs.Common.{◌≡◌, ◌++◌, codes}
use Rattle.bson_to_json.proofs.Puts.{joined, last_put}
use Rattle.bson_to_json.proofs.leaf.put_regex.Goals as goal

pub returns : goal.returns
returns g c =
    let A = codes "{\"$regularExpression\":{\"pattern\":" in
    let B = codes ",\"options\":" in
    let p = c.args.regex.pattern.now in
    let Y = quoted c.args.regex.options.now ++ codes "}}" in
    let e : (A ++ (quoted p ++ B)) ++ Y ≡ regex_json p c.args.regex.options.now = joined A (quoted p) B Y in
    last_put c.put_text-2.result (g.W.Write.contents c.args.out.now) (g.W.Write.contents c.put_text.new.out) (g.W.Write.contents c.put_text-2.new.out)
    (A ++ (quoted p ++ B)) Y _ c.in_ok-put_text.ensures e c.put_text-2.ensures
