use Rattle.std.specs.List.{IsDistinct}
use Rattle.bson_model.proofs.pairs.Pairs.len.Goals as goal

pub returns-in-Some-clause-texts : goal.returns-in-Some-clause-texts
returns-in-Some-clause-texts g c = rw (← c.self.view_is, c.in-Some.is) (rw c.deref.ensures at c.len.ensures.texts)

pub returns-in-None-clause-distinct : goal.returns-in-None-clause-distinct
unfolding IsDistinct
returns-in-None-clause-distinct g c = rw (← c.self.view_is, c.in-None.is) tt
