use Rattle.std.proofs.Common.{◌≡◌, List, [], ◌∷◌, ◌++◌, ◌∙◌, ap, append_assoc, codes, map}
use Rattle.dump_commands.specs.Summary.{Count, count_of, left_counts}
use Rattle.dump_io.proofs.Face.{on_ok}
use Rattle.dump_commands.proofs.summary.counted.push_left.Goals as goal

one_by_one : (l : List Count) (a b c : Count) → ((l ++ a ∷ []) ++ b ∷ []) ++ c ∷ [] ≡ l ++ a ∷ b ∷ c ∷ []
one_by_one l a b c = append_assoc (l ++ a ∷ []) (b ∷ []) (c ∷ []) ∙ append_assoc l (a ∷ []) (b ∷ c ∷ [])

pub returns : goal.returns
returns c =
    let n = c.args.counts.now in
    let l = map count_of c.args.all.now.items in
    let a : Count = (codes "bytes passed over", n.passed_over) in
    let b : Count = (codes "bytes not read", n.not_read) in
    let d : Count = (codes "files not read to the end", n.files) in
    on_ok c.push-3.result _ (map count_of c.push-3.new.counts.items ≡ l ++ left_counts n)
    (λ last. last ∙ ap (λ x. x ++ d ∷ []) (c.in_ok-push-2.ensures ∙ ap (λ x. x ++ b ∷ []) c.in_ok-push.ensures) ∙ one_by_one l a b d) c.push-3.ensures
