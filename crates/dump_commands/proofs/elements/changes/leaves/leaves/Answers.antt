use Rattle.std.proofs.Common.{◌∙◌, [], ◌∷◌, ap, subst, sym}
use Rattle.dump_commands.specs.elements.Changes.{HasLeaves}
use Rattle.dump_commands.specs.elements.Numbered.{leaves_from}
use Rattle.dump_commands.proofs.elements.Bridging.{come_of}
use Rattle.dump_commands.proofs.elements.changes.leaves.leaves.Goals as goal

pub returns-clause-leaves : goal.returns-clause-leaves
returns-clause-leaves c =
    let b = c.args.bytes.now in
    let come = come_of b _ c.in_ok-tokens.tokens.items c.in_ok-tokens.ensures.tokens in
    subst (HasLeaves b) (sym (c.in_ok-found.ensures.leaves ∙ ap (leaves_from b ([] ∷ [])) c.deref.ensures.value)) come
