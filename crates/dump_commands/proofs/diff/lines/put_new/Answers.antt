use Rattle.std.proofs.Common.{[], ◌∷◌, ◌++◌, OnOk, codes, decimal, subst, sym}
use Rattle.json.specs.Token.{key, number, string}
use Rattle.dump_io.specs.lines.Told.{Grows}
use Rattle.dump_io.proofs.Face.{grows_more, on_ok}
use Rattle.dump_commands.specs.diff.Lines.{new_members}
use Rattle.dump_commands.specs.diff.Pairs.{change_of}
use Rattle.dump_commands.specs.declared.diff.pairs.Change.{Change}
use Rattle.dump_commands.proofs.diff.lines.put_new.Goals as goal

pub returns-in_ok-put_text-in-Changed : goal.returns-in_ok-put_text-in-Changed
returns-in_ok-put_text-in-Changed c =
    let old = c.args.object.now in
    let mid = c.put_text.new.object in
    let new = c.put_number.new.object in
    let place = c.in-Changed.new.now.place in
    let file = key (codes "new file") ∷ string place.name.now ∷ [] in
    let offset = key (codes "new offset") ∷ number (decimal place.offset) ∷ [] in
    subst (λ (x : Change). OnOk c.put_number.result (Grows old new (new_members (change_of x)))) (sym c.in-Changed.is)
    (on_ok c.put_number.result (Grows mid new offset) (Grows old new (file ++ offset)) (λ more. grows_more old mid new file offset c.in_ok-put_text-in-Changed.ensures more) c.put_number.ensures)
