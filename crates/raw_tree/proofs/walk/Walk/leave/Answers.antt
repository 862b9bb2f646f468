use Rattle.std.proofs.Common.{refl}
use Rattle.raw_tree.proofs.walk.Walk.leave.Goals as goal

pub behind-requires : goal.behind-requires
behind-requires c = c.requires c.pop.new.self.items c.in-Some.outer c.in-Some.ensures.items

pub returns : goal.returns
returns c = record { document_is = refl; most_is = refl; w = c.in-Some.outer; stored = c.in-Some.ensures.items; level_is = λ d lies. c.behind.ensures d lies }
