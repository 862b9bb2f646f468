use Rattle.std.proofs.Common.{ap, ◌∙◌}
use Rattle.std.specs.String.{string_bytes}
use Rattle.std.proofs.lemmas.Result.{on_ok_weaker}
use Rattle.bson_model.specs.Tree.{pairs_of, with_trees}
use Rattle.bson_model.proofs.Trees.{with_trees-with_pair}
use Rattle.bson_model.proofs.bson.Document.put.Goals as goal

pub returns-clause-trees : goal.returns-clause-trees
returns-clause-trees c =
    on_ok_weaker c.put.result (λ h. ap with_trees h ∙ with_trees-with_pair (string_bytes c.args.key) c.args.value (pairs_of c.args.self.now)) c.put.ensures.put
