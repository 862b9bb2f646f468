use Rattle.std.proofs.Common.{ap, ◌∙◌, OnOk, Result, Ok, Err}
use Rattle.std.specs.String.{string_bytes}
use Rattle.bson_model.specs.Tree.{pairs_of, with_trees}
use Rattle.bson_model.proofs.Trees.{with_trees-with_pair}
use Rattle.bson_model.proofs.bson.Document.insert.Goals as goal

on_ok : {T E P Q : Type 0} (r : Result T E) → (P → Q) → OnOk r P → OnOk r Q
on_ok (Ok x) f h = f h
on_ok (Err e) f h = tt

pub returns-clause-trees : goal.returns-clause-trees
returns-clause-trees c =
    on_ok c.insert.result (λ h. ap with_trees h ∙ with_trees-with_pair (string_bytes c.args.key) c.args.value (pairs_of c.args.self.now)) c.insert.ensures.inserted
