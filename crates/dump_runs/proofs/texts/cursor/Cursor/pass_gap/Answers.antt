use Rattle.std.proofs.Common.{◌∙◌, sym}
use Rattle.dump_runs.proofs.texts.Advancing.{gap_ends, gap_fails, gap_goes_on, gap_more, gap_none}
use Rattle.dump_io.proofs.Face.{if_err_reading}
use Rattle.dump_runs.proofs.texts.cursor.Cursor.pass_gap.Goals as goal

pub loop-init : goal.loop-init
loop-init g c = gap_none _ c.args.self.now c.requires

pub returns-in_default-clause-passed : goal.returns-in_default-clause-passed
returns-in_default-clause-passed g c =
    let r = g.R.Read.remaining in
    gap_ends (r c.args.reader.now) c.args.self.now c.loop.invariant c.in_ok-byte.ensures.next c.in_default.is

pub returns-then-begins_line-clause-passed : goal.returns-then-begins_line-clause-passed
returns-then-begins_line-clause-passed g c =
    let r = g.R.Read.remaining in
    gap_goes_on (r c.args.reader.now) c.args.self.now c.loop.invariant c.in_ok-byte.ensures.next c.in-Some.is (sym c.begins_line.ensures ∙ c.if-begins_line.true)

pub returns-in_err-byte-clause-fails : goal.returns-in_err-byte-clause-fails
returns-in_err-byte-clause-fails g c =
    let r = g.R.Read.remaining in
    if_err_reading c.from_residual.result _
    (gap_fails (r c.args.reader.now) (r c.loop.reader) (r c.next.new.reader) c.args.self.now c.loop.self c.next.new.self c.loop.invariant c.in_err-byte.ensures.fails)

pub loop-preserved : goal.loop-preserved
loop-preserved g c =
    let r = g.R.Read.remaining in
    gap_more (r c.args.reader.now) c.args.self.now c.pass.new.self c.loop.invariant
    c.in_ok-byte.ensures.next c.in-Some.is (sym c.begins_line.ensures ∙ c.if-begins_line.false) c.in_ok-pass.ensures.passed
