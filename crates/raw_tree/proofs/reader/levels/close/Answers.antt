use Rattle.std.proofs.Common.{ap, ◌∙◌}
use Rattle.bson_model.specs.Tree.{code_with_scope, entries, with_trees, pairs_of}
use Rattle.bson_model.proofs.Face.{tree_of-JavaScriptCodeWithScope}
use Rattle.raw_tree.proofs.reader.Stacks.{closes_scope}
use Rattle.raw_tree.proofs.reader.levels.close.Goals as goal

pub returns-in_ok-code-in-Document-Some-default-clause-closed : goal.returns-in_ok-code-in-Document-Some-default-clause-closed
returns-in_ok-code-in-Document-Some-default-clause-closed c =
    let held = c.in-Document-Some-default in
    let scope = entries (with_trees (pairs_of held.scope)) in
    closes_scope c.args.contents held.field-0 held.code held.scope _ held.is held.field-0-is
    (tree_of-JavaScriptCodeWithScope _ ∙ ap (λ x. code_with_scope x scope) c.in_ok-code-in-Document-Some-default.ensures.ok)
