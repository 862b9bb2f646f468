use Rattle.std.proofs.Common.{◌≡◌, ◌<◌, ◌++◌, ◌∙◌, Global, List, Vec, ap, arith, get_or, length, sym, ℕ}
use Rattle.std.proofs.lemmas.List.{get_or-map, length-map}
use Rattle.dump_commands.specs.state.Fields.{row_line, rows_text, table_of}
use Rattle.dump_io.specs.lines.Origins.{Origin, origin_of}
use Rattle.dump_commands.specs.declared.state.rows.Row.{Row}
use Rattle.dump_commands.proofs.state.Tabled.{rows_end, rows_next}
use Rattle.dump_commands.proofs.state.paths.Paths.push_rows.Goals as goal

pub loop-number-preserved : goal.loop-number-preserved
loop-number-preserved c =
    let t = table_of c.args.self.now in
    let n = c.loop-number.number in
    let few = c.count-count.ensures in
    let below = c.loop-number-test.true in
    let keys = c.args.self.now.texts.keys in
    let items : Vec ℕ Global → List ℕ = λ text. text.items in
    let x = c.index-paths-number.result in
    let within : n < length keys = omega (arith, few, below, length-map keys items) in
    let path : c.deref.result.now ≡ get_or t.paths n x.items =
    c.deref.ensures.value ∙ ap items (c.index-paths-number.is ∙ ap (λ (xs : List (Vec ℕ Global)). get_or xs n x) c.as_slice-paths.ensures.keys)
    ∙ sym (get_or-map items keys n x x.items within) in
    let o = origin_of c.index-first.result.now in
    let r = c.index.result.now in
    let firsts = c.args.self.now.firsts.items in
    let before : n < length firsts = omega (arith, few, below, length-map firsts origin_of) in
    let first : o ≡ get_or t.firsts n o = ap origin_of c.index-first.ensures ∙ sym (get_or-map origin_of firsts n c.index-first.result.now o before) in
    let text = c.loop-number.text.items in
    let line : c.push_row.new.text.items ≡ text ++ row_line (get_or t.paths n x.items) (get_or t.firsts n o) (get_or t.rows n r) =
    c.in_ok-push_row.ensures.line ∙ ap (λ (p : List ℕ). text ++ row_line p o r) path
    ∙ ap (λ (p : Origin). text ++ row_line (get_or t.paths n x.items) p r) first
    ∙ ap (λ (p : Row). text ++ row_line (get_or t.paths n x.items) (get_or t.firsts n o) p) c.index.ensures in
    rows_next text t.paths t.firsts t.rows n x.items o r
    (omega (arith, few, below), omega (arith, few, below), omega (arith, few, below)) c.loop-number.invariant line

pub returns-clause-lines : goal.returns-clause-lines
returns-clause-lines c =
    let t = table_of c.args.self.now in
    rows_end c.loop-number.text.items (c.args.text.now.items ++ rows_text t.paths t.firsts t.rows) t.paths t.firsts t.rows c.loop-number.number
    (omega (arith, c.count-count.ensures, c.loop-number-test.false)) c.loop-number.invariant
