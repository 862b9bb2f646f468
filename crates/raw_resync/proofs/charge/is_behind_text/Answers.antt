use Rattle.raw_resync.proofs.Charging.{no_scope}
use Rattle.raw_resync.proofs.charge.is_behind_text.Goals as goal
use Rattle.std.proofs.Common.{inr}

pub returns-then-tag-eq-CODE_WITH_SCOPE : goal.returns-then-tag-eq-CODE_WITH_SCOPE
returns-then-tag-eq-CODE_WITH_SCOPE c x is = inr c.if-tag-eq-CODE_WITH_SCOPE.true

pub returns : goal.returns
returns c x is = no_scope c.args.tag x c.is_of_text.result c.if-tag-eq-CODE_WITH_SCOPE.false (c.is_of_text.ensures x is)
