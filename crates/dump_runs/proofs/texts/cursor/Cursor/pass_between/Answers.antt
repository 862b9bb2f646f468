use Rattle.std.proofs.Common.{rules}
use Rattle.dump_runs.proofs.texts.Advancing.{between_ends, between_fails, between_more, nothing_between}
use Rattle.dump_io.proofs.Face.{if_err_reading}
use Rattle.dump_runs.proofs.texts.cursor.Cursor.pass_between.Goals as goal

pub loop-init : goal.loop-init
loop-init g c = nothing_between _ c.args.self.now c.requires

pub returns-in_default-clause-passed : goal.returns-in_default-clause-passed
returns-in_default-clause-passed g c =
    let r = g.R.Read.remaining in
    between_ends (r c.args.reader.now) c.args.self.now _ c.loop.invariant c.in_ok-byte.ensures.next c.in_default.is tt

pub returns-in_default-behind-clause-passed : goal.returns-in_default-behind-clause-passed
returns-in_default-behind-clause-passed g c =
    let r = g.R.Read.remaining in
    between_ends (r c.args.reader.now) c.args.self.now _ c.loop.invariant c.in_ok-byte.ensures.next c.in-Some.is (search rules)

pub loop-preserved : goal.loop-preserved
loop-preserved g c =
    let r = g.R.Read.remaining in
    between_more (r c.args.reader.now) c.args.self.now c.pass.new.self _
    c.loop.invariant c.in_ok-byte.ensures.next c.in-Some.is c.in-Some-behind.ensures c.in_ok-pass.ensures.passed

pub returns-in_err-byte-clause-fails : goal.returns-in_err-byte-clause-fails
returns-in_err-byte-clause-fails g c =
    let r = g.R.Read.remaining in
    if_err_reading c.from_residual.result _
    (between_fails (r c.args.reader.now) (r c.loop.reader) (r c.next.new.reader) c.args.self.now c.loop.self c.next.new.self c.loop.invariant c.in_err-byte.ensures.fails)
