use Rattle.std.proofs.Common.{[], ◌∷◌, ◌++◌, codes}
use Rattle.json.specs.Token.{key, string}
use Rattle.dump_io.specs.lines.Told.{Grows}
use Rattle.dump_io.proofs.Face.{grows_more, on_ok}
use Rattle.dump_commands.proofs.state.seen.put_missing.Goals as goal

pub returns : goal.returns
returns c =
    let old = c.args.object.now in
    let mid = c.put_text.new.object in
    let new = c.put_text-2.new.object in
    let path = key (codes "path") ∷ string c.args.path.now ∷ [] in
    let finding = key (codes "finding") ∷ string (codes "no document has it") ∷ [] in
    on_ok c.put_text-2.result (Grows mid new finding) (Grows old new (path ++ finding)) (λ more. grows_more old mid new path finding c.in_ok-put_text.ensures more) c.put_text-2.ensures
