use Rattle.std.proofs.Common.{[], ◌∷◌, ◌++◌, List, ℕ, OnOk, codes, option_map, subst}
use Rattle.std.specs.String.{string_bytes}
use Rattle.json.specs.Token.{key, string}
use Rattle.dump_io.specs.lines.Told.{Grows}
use Rattle.dump_io.proofs.Face.{grows_more, on_ok}
use Rattle.dump_commands.specs.diff.Lines.{key_members, new_members, paths_members, word_of}
use Rattle.dump_commands.specs.diff.Pairs.{change_of}
use Rattle.dump_commands.specs.elements.Changes.{listing_by}
use Rattle.dump_commands.proofs.diff.lines.put_change.Goals as goal

pub returns : goal.returns
returns c =
    let old = c.args.object.now in
    let one = c.put_text.new.object in
    let two = c.put_key.new.object in
    let three = c.put_new.new.object in
    let new = c.put_paths.new.object in
    let change = change_of c.args.change in
    let word = key (codes "finding") ∷ string (word_of change) ∷ [] in
    let shown = key_members (option_map string_bytes c.args.details.now.json) in
    let place = new_members change in
    let paths = paths_members (option_map listing_by c.args.details.now.paths) in
    let said = subst (λ (w : List ℕ). Grows old one (key (codes "finding") ∷ string w ∷ [])) c.word_of.ensures c.in_ok-put_text.ensures in
    let keyed = grows_more old one two word shown said c.in_ok-put_key.ensures in
    let placed = grows_more old two three (word ++ shown) place keyed c.in_ok-put_new.ensures in
    let put : OnOk c.put_paths.result (Grows three new paths) = c.put_paths.ensures in
    on_ok c.put_paths.result (Grows three new paths) (Grows old new (word ++ shown ++ place ++ paths)) (λ m. grows_more old three new (word ++ shown ++ place) paths placed m) put
