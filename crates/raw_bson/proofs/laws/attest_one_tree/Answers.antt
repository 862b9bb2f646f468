use Rattle.raw_bson.specs.Owned.{owned_value}
use Rattle.raw_bson.proofs.Converted.{in_range_one_tree}
use Rattle.raw_bson.proofs.laws.attest_one_tree.Goals as goal

pub returns : goal.returns
returns c = in_range_one_tree (owned_value c.args.value.now) (rw c.as_raw_bson_ref.ensures at c.attest_view.ensures)
