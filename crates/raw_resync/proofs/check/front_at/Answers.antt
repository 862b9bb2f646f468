use Rattle.std.proofs.Common.{rules, inl, inr}
use Rattle.raw_resync.proofs.check.front_at.Goals.{then-part-2, else-part-2}
use Rattle.raw_resync.proofs.check.front_at.Goals as goal

pub returns-then-lacks_tag : goal.returns-then-lacks_tag
returns-then-lacks_tag c = elim c.if-part-2.branch [
  | then-part-2 w ↦ inl (inl (search rules, search rules, inr (search rules)))
  | else-part-2 w ↦ inr (search rules, search rules)
]
