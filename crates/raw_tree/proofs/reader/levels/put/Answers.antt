use Rattle.std.proofs.Common.{◌++◌, ◌∷◌, ◌∙◌, [], ap, refl, subst, sym}
use Rattle.std.proofs.lemmas.List.{map_push}
use Rattle.raw_tree.proofs.Common.{KeepsKeys, on_ok_weaker, tree_of}
use Rattle.raw_tree.proofs.reader.levels.put.Goals as goal

pub returns-in-Array-clause-put : goal.returns-in-Array-clause-put
returns-in-Array-clause-put c =
    let t = tree_of c.args.value in
    on_ok_weaker c.put_value.result (λ more. (
      refl,
      refl,
      λ pairs are. (
        (λ keeps. absurd (subst KeepsKeys c.in-Array.is keeps)),
        more ∙ ap (λ x. x ++ t ∷ []) (c.take_room.ensures c.args.level.now.holder pairs are).1 ∙ sym (map_push (λ p. p.1) pairs (c.args.key.now, t)),
      ),
    )) c.put_value.ensures.put
