use Rattle.std.proofs.Common.{◌++◌, ◌∙◌, List, ap}
use Rattle.json.specs.Token.{Token}
use Rattle.dump_commands.specs.diff.Lines.{differences_members}
use Rattle.dump_commands.proofs.diff.last.differences_object.Goals as goal

pub returns : goal.returns
returns c =
    let begun = c.in_ok-object.ensures in
    let put = c.in_ok-put_differences.ensures in
    let members = differences_members c.args.differences in
    c.ended.ensures members (put.0 ∙ begun.0) (put.1 ∙ ap (λ (x : List Token). x ++ members) begun.1)
