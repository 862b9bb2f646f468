use Rattle.std.proofs.Common.{arith, ap, length, refl}
use Rattle.raw_tree.proofs.walk.level.Level.behind.Goals as goal

pub unreachable-requires : goal.unreachable-requires
unreachable-requires c =
    let is = c.requires in
    let same = c.document_at.ensures is.bytes is.lies in
    omega (arith, is.begins, is.ends, ap length same, c.in_default.ensures.outside)

pub returns : goal.returns
returns c d lies = rw (c.in-Some.ensures.left, c.document_at.ensures d lies) refl
