use Rattle.std.proofs.Common.{[], ◌∷◌, ◌++◌, ◌∙◌, List, ap, codes, decimal}
use Rattle.json.specs.Token.{Token, key, number, string}
use Rattle.dump_io.proofs.Face.{grows_more}
use Rattle.dump_commands.specs.diff.Lines.{change_members, details_of}
use Rattle.dump_commands.specs.diff.Pairs.{change_of}
use Rattle.dump_commands.proofs.diff.lines.change_object.Goals as goal

pub returns : goal.returns
returns c =
    let begun = c.in_ok-object.ensures in
    let file = key (codes "file") ∷ string c.args.at.name.now ∷ [] in
    let offset = key (codes "offset") ∷ number (decimal c.args.at.offset) ∷ [] in
    let more = change_members (change_of c.args.change) (details_of c.args.details.now) in
    let head = grows_more c.in_ok-object.object c.put_text.new.object c.put_number.new.object file offset c.in_ok-put_text.ensures c.in_ok-put_number.ensures in
    let all = grows_more c.in_ok-object.object c.put_number.new.object c.put_change.new.object (file ++ offset) more head c.in_ok-put_change.ensures in
    c.ended.ensures (file ++ offset ++ more) (all.0 ∙ begun.0) (all.1 ∙ ap (λ (x : List Token). x ++ (file ++ offset ++ more)) begun.1)
