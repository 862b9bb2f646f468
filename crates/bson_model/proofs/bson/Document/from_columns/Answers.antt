use Rattle.bson_model.proofs.Columns.{trees_kept}
use Rattle.bson_model.proofs.bson.Document.from_columns.Goals as goal

pub returns-clause-trees : goal.returns-clause-trees
returns-clause-trees c = trees_kept c.args.keys.now c.args.values.items _ c.in_ok-from_columns.ensures.pairs
