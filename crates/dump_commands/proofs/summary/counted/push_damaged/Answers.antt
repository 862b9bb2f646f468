use Rattle.std.proofs.Common.{rules, ◌≡◌, [], ◌∷◌, ◌++◌, ◌∙◌, ap, append_assoc, codes, map, sym}
use Rattle.dump_commands.specs.Summary.{Count, count_of, damaged_counts}
use Rattle.dump_io.proofs.Face.{on_ok}
use Rattle.dump_commands.proofs.summary.counted.push_damaged.Goals as goal

pub returns : goal.returns
returns c =
    let n = c.args.counts.now in
    let l = map count_of c.args.all.now.items in
    let a : Count = (codes "damaged", n.damaged) in
    let b : Count = (codes "too deep", n.too_deep) in
    let both : damaged_counts c.args.looks n ≡ a ∷ b ∷ [] = search rules in
    on_ok c.push-2.result _ (map count_of c.push-2.new.counts.items ≡ l ++ damaged_counts c.args.looks n)
    (λ last. last ∙ ap (λ x. x ++ b ∷ []) c.in_ok-push.ensures ∙ append_assoc l (a ∷ []) (b ∷ []) ∙ ap (λ x. l ++ x) (sym both)) c.push-2.ensures
