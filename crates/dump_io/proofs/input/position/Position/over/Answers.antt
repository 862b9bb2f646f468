use Rattle.std.proofs.Common.{◌∙◌, ap, fold}
use Rattle.std.proofs.lemmas.List.{take_all}
use Rattle.dump_io.proofs.input.Placing.{over_fold, position_step}
use Rattle.dump_io.proofs.input.position.Position.over.Goals as goal

pub returns-clause-over : goal.returns-clause-over
returns-clause-over c = c.loop-byte.invariant.0 ∙ ap (fold position_step c.args.self) (take_all c.loop-byte.byte-index c.args.bytes.now c.loop-byte-test.false) ∙ over_fold c.args.self c.args.bytes.now
