use Rattle.std.proofs.Common.{[], ◌∷◌, ◌++◌, codes, decimal}
use Rattle.json.specs.Token.{key, number}
use Rattle.dump_io.specs.lines.Told.{Grows}
use Rattle.dump_io.specs.input.Endings.{all_members}
use Rattle.dump_io.proofs.lines.Cases.{on_ok}
use Rattle.dump_io.proofs.lines.Objects.{grows_more}
use Rattle.dump_io.proofs.input.rest.put_skip.Goals as goal

pub returns : goal.returns
returns c =
    let old = c.args.object.now in
    let mid = c.put_number.new.object in
    let new = c.put_all.new.object in
    let first = key (codes "passed over") ∷ number (decimal c.args.skip.count) ∷ [] in
    let rest = all_members c.args.skip.all in
    on_ok c.put_all.result (Grows mid new rest) (Grows old new (first ++ rest)) (λ more. grows_more old mid new first rest c.in_ok-put_number.ensures more) c.put_all.ensures
