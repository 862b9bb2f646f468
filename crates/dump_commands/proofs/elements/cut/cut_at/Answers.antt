use Rattle.std.proofs.Common.{◌≡◌, ◌+◌, ◌∙◌, Bool, List, ℕ, suc, ap, arith, false, length, refl}
use Rattle.raw_view.specs.Document.{bytes_of}
use Rattle.dump_commands.specs.elements.Cut.{texts_of}
use Rattle.dump_commands.specs.elements.Pick.{comma, parts}
use Rattle.dump_commands.proofs.elements.Cutting.{Level, cut_same}
use Rattle.dump_commands.proofs.elements.cut.cut_at.Goals as goal

abbrev level_at : Bool → ℕ → List (List ℕ) → List ℕ → Level
level_at others levels paths bytes = record { others = others; levels = levels; in_array = false; paths = paths; bytes = bytes }

pub returns-clause-cut : goal.returns-clause-cut
returns-clause-cut c =
    let text = c.args.paths.now in
    let levels : length text + 1 ≡ suc (length text) = omega arith in
    let paths : texts_of c.deref.result.now ≡ parts comma text = ap texts_of c.deref.ensures.value ∙ c.in_ok-each.ensures in
    cut_same (level_at c.args.others (length text + 1) (texts_of c.deref.result.now) (bytes_of c.args.document))
    (level_at c.args.others (suc (length text)) (parts comma text) (bytes_of c.args.document)) c.in_ok-made.made.items c.in_ok-made.made.items
    (λ i. level_at c.args.others (levels i) (paths i) (bytes_of c.args.document)) refl c.in_ok-made.ensures.cut
