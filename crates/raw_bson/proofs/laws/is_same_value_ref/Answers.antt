use Rattle.raw_bson.proofs.SameViews.{same_view}
use Rattle.raw_bson.proofs.laws.is_same_value_ref.Goals as goal

pub returns : goal.returns
returns c = rw c.eq.ensures (same_view c.args.value c.args.other)
