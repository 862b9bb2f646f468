use Rattle.std.proofs.Common.{[], ◌∷◌, ◌++◌, ◌∙◌, List, ap, codes}
use Rattle.json.specs.Token.{Token, key, string}
use Rattle.dump_io.proofs.Face.{grows_more}
use Rattle.dump_commands.proofs.diff.last.uncompared_object.Goals as goal

pub returns : goal.returns
returns c =
    let begun = c.in_ok-object.ensures in
    let file = key (codes "file") ∷ string c.args.name.now ∷ [] in
    let finding = key (codes "finding") ∷ string (codes "not compared") ∷ [] in
    let both = grows_more c.in_ok-object.object c.put_text.new.object c.put_text-2.new.object file finding c.in_ok-put_text.ensures c.in_ok-put_text-2.ensures in
    c.ended.ensures (file ++ finding) (both.0 ∙ begun.0) (both.1 ∙ ap (λ (x : List Token). x ++ (file ++ finding)) begun.1)
