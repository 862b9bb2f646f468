use Rattle.std.proofs.Common.{[], ◌∷◌, ◌++◌, OnOk, codes, decimal}
use Rattle.json.specs.Token.{key, number}
use Rattle.dump_io.specs.lines.Told.{Grows}
use Rattle.dump_io.proofs.Face.{grows_more, on_ok}
use Rattle.dump_commands.proofs.summary.lines.put_first.Goals as goal

pub returns : goal.returns
returns c =
    let old = c.args.object.now in
    let one = c.put_number.new.object in
    let two = c.put_number-2.new.object in
    let new = c.put_number-3.new.object in
    let kept = key (codes "kept") ∷ number (decimal c.args.kept) ∷ [] in
    let regions = key (codes "damaged regions") ∷ number (decimal c.args.counts.now.regions) ∷ [] in
    let lost = key (codes "bytes lost") ∷ number (decimal c.args.counts.now.lost) ∷ [] in
    let both = grows_more old one two kept regions c.in_ok-put_number.ensures c.in_ok-put_number-2.ensures in
    let put : OnOk c.put_number-3.result (Grows two new lost) = c.put_number-3.ensures in
    on_ok c.put_number-3.result (Grows two new lost) (Grows old new (kept ++ regions ++ lost)) (λ m. grows_more old two new (kept ++ regions) lost both m) put
