use Rattle.std.proofs.Common.{◌++◌, flat_map, sym, ap, ◌∙◌, map-id}
use Rattle.std.proofs.lemmas.Iterator.{YieldsList-from_chars}
use Rattle.std.proofs.lemmas.Iterator.Consumers.{YieldsList-end}
use Rattle.dump_commands.specs.diff.Again.{safe_char}
use Rattle.dump_commands.proofs.diff.again.push_safe.Goals as goal

pub returns : goal.returns
returns c =
    let end = YieldsList-end (YieldsList-from_chars c.args.json.now c.utf8.json cc) c.loop-char.yielded _ c.loop-char.yielded_by _ _ c.in-None.is c.next.ensures.steps in
    c.loop-char.invariant ∙ ap (λ cs. c.args.text.now.items ++ flat_map safe_char cs) (sym (map-id c.loop-char.yielded) ∙ end.0)
