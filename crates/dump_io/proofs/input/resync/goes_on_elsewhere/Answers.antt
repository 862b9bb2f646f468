use Rattle.dump_io.proofs.lines.Cases.{if_ok}
use Rattle.dump_io.proofs.input.Deciding.{goes_behind, goes_inside}
use Rattle.dump_io.proofs.input.resync.goes_on_elsewhere.Goals as goal

pub returns-then-seen-clause-goes : goal.returns-then-seen-clause-goes
returns-then-seen-clause-goes g c = goes_inside c.in_ok-seen.seen c.if-seen.true c.in_ok-seen.ensures.sees

pub returns-clause-goes : goal.returns-clause-goes
returns-clause-goes g c = if_ok c.stands_alone.result _ _ (λ alone looks. goes_behind c.if-seen.false c.in_ok-seen.ensures.sees looks) c.stands_alone.ensures.looks
