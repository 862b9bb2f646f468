use Rattle.std.proofs.Common.{◌≡◌, ◌++◌, ◌∙◌, List, ap, append_assoc, codes, ℕ}
use Rattle.dump_io.specs.lines.Quoting.{quoted}
use Rattle.dump_io.proofs.Face.{on_ok}
use Rattle.dump_commands.specs.state.Seen.{missing_line}
use Rattle.dump_io.specs.declared.lines.style.Style.TheVariants.{Words}
use Rattle.dump_commands.proofs.state.seen.push_missing_words.Goals as goal

pub returns : goal.returns
returns c =
    let old = c.args.text.now.items in
    let words = codes "no document has " in
    let path = quoted c.args.path.now in
    on_ok c.push_words-2.result _ (c.push_words-2.new.text.items ≡ old ++ missing_line Words c.args.path.now)
    (λ last. last ∙ ap (λ (x : List ℕ). x ++ codes "\n") (c.in_ok-push_quoted.ensures ∙ ap (λ (x : List ℕ). x ++ path) c.in_ok-push_words.ensures)
    ∙ append_assoc (old ++ words) path (codes "\n") ∙ append_assoc old words (path ++ codes "\n"))
    c.push_words-2.ensures
