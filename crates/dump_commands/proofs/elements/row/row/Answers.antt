use Rattle.std.proofs.Common.{arith, rules, subst, sym}
use Rattle.std.proofs.lemmas.Str.Pattern.{split_parts}
use Rattle.raw_view.specs.Document.{bytes_of}
use Rattle.dump_commands.specs.elements.Pick.{comma, parts}
use Rattle.dump_commands.specs.elements.Row.{IsRow}
use Rattle.dump_commands.proofs.elements.Rowed.{put_cell, put_last, row_last, row_more, row_same, with_cell}
use Rattle.dump_commands.proofs.elements.row.row.Goals as goal

pub paths-preserved : goal.paths-preserved
paths-preserved c =
    let l = c.paths in
    let s = c.args.separator in
    let b = bytes_of c.args.document in
    let cell = c.in_ok-text.text.items in
    let cut = rw c.in-Some.is at (split_parts comma l.rest.now c.split_once.result c.split_once.ensures.cases (omega arith)) in
    let put = put_cell s l.row.items c.push_cell.new.row.items c.push.new.self.items cell c.deref.result.now c.byte_of.result
    c.in_ok-push_cell.ensures c.deref.ensures.value c.in_ok-push.ensures.items c.byte_of.ensures in (
      row_same s b c.args.paths.now (with_cell s l.row.items cell) c.push.new.self.items c.in-Some.more.now put
          (row_more s b c.args.paths.now l.row.items l.rest.now c.in-Some.path.now c.in-Some.more.now cell l.invariant.0 cut.0 cut.1 c.in_ok-text.ensures),
      search rules,
    )

pub returns : goal.returns
returns c =
    let l = c.paths in
    let s = c.args.separator in
    let last = rw c.in_default.is at (split_parts comma l.rest.now c.split_once.result c.split_once.ensures.cases (omega arith)) in
    let b = bytes_of c.args.document in
    let cell = c.in_ok-text-2.text.items in
    let put = put_last s l.row.items c.push_cell-2.new.row.items c.end.new.row.items cell c.deref-2.result.now c.in_ok-push_cell-2.ensures c.deref-2.ensures.value
    c.in_ok-end.ensures in
    subst (IsRow s b (parts comma c.args.paths.now)) (sym put) (row_last s b c.args.paths.now l.row.items l.rest.now cell l.invariant.0 last c.in_ok-text-2.ensures)
