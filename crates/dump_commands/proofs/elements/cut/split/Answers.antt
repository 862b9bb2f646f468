use Rattle.std.proofs.Common.{arith, rules}
use Rattle.std.proofs.lemmas.Str.Pattern.{split_parts}
use Rattle.dump_commands.specs.elements.Cut.{texts_of}
use Rattle.dump_commands.specs.elements.Pick.{comma}
use Rattle.dump_commands.proofs.elements.Cutting.{split_last, split_more}
use Rattle.dump_commands.proofs.elements.cut.split.Goals as goal

pub paths-preserved : goal.paths-preserved
paths-preserved c =
    let l = c.paths in
    let cut = rw c.in-Some.is at (split_parts comma l.rest.now c.split_once.result c.split_once.ensures.cases (omega arith)) in
    (split_more (texts_of l.each.items) _ c.args.paths.now l.rest.now _ _ l.invariant.0 cut.0 cut.1 c.in_ok-push_path.ensures, search rules)

pub returns : goal.returns
returns c =
    let l = c.paths in
    let last = rw c.in_default.is at (split_parts comma l.rest.now c.split_once.result c.split_once.ensures.cases (omega arith)) in
    split_last (texts_of l.each.items) _ c.args.paths.now l.rest.now l.invariant.0 last c.in_ok-push_path-2.ensures
