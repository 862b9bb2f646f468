use Rattle.std.proofs.Common.{rules, [], ◌∷◌, ◌++◌, OnOk, codes, decimal}
use Rattle.json.specs.Token.{key, number, string}
use Rattle.dump_io.specs.lines.Told.{Grows}
use Rattle.dump_io.proofs.lines.Cases.{on_ok}
use Rattle.dump_io.proofs.lines.Objects.{grows_more}
use Rattle.dump_io.proofs.lines.object.put_first.Goals as goal

pub returns : goal.returns
returns c =
    let old = c.args.object.now in
    let two = c.put_text-2.new.object in
    let new = c.put_number.new.object in
    let word = key (codes "finding") ∷ string (codes "repeat") ∷ [] in
    let file = key (codes "first file") ∷ string c.args.first.name.now ∷ [] in
    let offset = key (codes "first offset") ∷ number (decimal c.args.first.offset) ∷ [] in
    let both = grows_more old c.put_text.new.object two word file c.in_ok-put_text.ensures c.in_ok-put_text-2.ensures in
    let put : OnOk c.put_number.result (Grows two new offset) = search rules in
    on_ok c.put_number.result (Grows two new offset) (Grows old new (word ++ file ++ offset)) (λ m. grows_more old two new (word ++ file) offset both m) put
