use Rattle.std.proofs.Common.{◌++◌, ◌∙◌, List, ap, arith, rules, ℕ}
use Rattle.std.proofs.lemmas.Str.Pattern.{split_parts}
use Rattle.dump_commands.specs.elements.Pick.{comma, parts}
use Rattle.dump_commands.specs.elements.Row.{cells}
use Rattle.dump_commands.proofs.elements.Rowed.{header_last, header_more, put_cell, put_last}
use Rattle.dump_commands.proofs.elements.row.header.Goals as goal

pub paths-preserved : goal.paths-preserved
paths-preserved c =
    let l = c.paths in
    let s = c.args.separator in
    let cut = rw c.in-Some.is at (split_parts comma l.rest.now c.split_once.result c.split_once.ensures.cases (omega arith)) in
    let put = put_cell s l.row.items c.push_cell.new.row.items c.push.new.self.items c.in-Some.path.now c.as_bytes.result.now c.byte_of.result
    c.in_ok-push_cell.ensures c.as_bytes.ensures.value c.in_ok-push.ensures.items c.byte_of.ensures in (
      ap (λ (x : List ℕ). x ++ cells s (parts comma c.in-Some.more.now)) put
          ∙ header_more s c.args.paths.now l.row.items l.rest.now c.in-Some.path.now c.in-Some.more.now l.invariant.0 cut.0 cut.1,
      search rules,
    )

pub returns : goal.returns
returns c =
    let l = c.paths in
    let s = c.args.separator in
    let last = rw c.in_default.is at (split_parts comma l.rest.now c.split_once.result c.split_once.ensures.cases (omega arith)) in
    put_last s l.row.items c.push_cell-2.new.row.items c.end.new.row.items l.rest.now c.as_bytes-2.result.now c.in_ok-push_cell-2.ensures
    c.as_bytes-2.ensures.value c.in_ok-end.ensures
    ∙ header_last s c.args.paths.now l.row.items l.rest.now l.invariant.0 last
