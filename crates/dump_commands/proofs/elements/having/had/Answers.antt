use Rattle.std.proofs.Common.{◌∷◌, ◌++◌, [], arith, rules}
use Rattle.std.proofs.lemmas.Str.Pattern.{split_parts}
use Rattle.raw_view.specs.Document.{bytes_of}
use Rattle.dump_commands.specs.elements.Pick.{comma}
use Rattle.dump_commands.proofs.elements.Had.{had_begins, had_last, had_more, had_same}
use Rattle.dump_commands.proofs.elements.having.had.Goals as goal

pub paths-init : goal.paths-init
paths-init c = (had_begins c.args.picking.choice (bytes_of c.args.document) c.args.picking.paths.now c.new-flags.result.items (search rules), search rules)

pub paths-preserved : goal.paths-preserved
paths-preserved c =
    let l = c.paths in
    let cut = rw c.in-Some.is at (split_parts comma l.rest.now c.split_once.result c.split_once.ensures.cases (omega arith)) in (
      had_same c.args.picking.choice (bytes_of c.args.document) c.args.picking.paths.now (l.flags.items ++ c.in_ok-has_path.has_path ∷ []) c.push.new.self.items
          c.in-Some.more.now (search rules)
          (had_more c.args.picking.choice (bytes_of c.args.document) c.args.picking.paths.now l.flags.items l.rest.now c.in-Some.path.now c.in-Some.more.now
          c.in_ok-has_path.has_path l.invariant.0 cut.0 cut.1 c.in_ok-has_path.ensures),
      search rules,
    )

pub returns : goal.returns
returns c =
    let l = c.paths in
    let last = rw c.in_default.is at (split_parts comma l.rest.now c.split_once.result c.split_once.ensures.cases (omega arith)) in
    had_last c.args.picking.choice (bytes_of c.args.document) c.args.picking.paths.now l.flags.items _ l.rest.now _ l.invariant.0 last c.in_ok-has_last.ensures (search rules)
