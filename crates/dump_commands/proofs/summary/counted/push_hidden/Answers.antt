use Rattle.std.proofs.Common.{◌≡◌, ◌-◌, ◌∙◌, ℕ, [], ◌∷◌, ◌++◌, Option, ap, codes, map, sym}
use Rattle.dump_commands.specs.Summary.{count_of, hidden_counts}
use Rattle.dump_io.proofs.Face.{on_ok}
use Rattle.dump_commands.proofs.summary.counted.push_hidden.Goals as goal

pub returns-in-Some : goal.returns-in-Some
returns-in-Some c =
    let old = map count_of c.args.all.now.items in
    let new = map count_of c.push.new.counts.items in
    let n = c.args.counts.now in
    let same : c.saturating_sub.result ≡ n.findings - c.in-Some.most = c.saturating_sub.ensures in
    on_ok c.push.result (new ≡ old ++ (codes "findings not printed", c.saturating_sub.result) ∷ []) (new ≡ old ++ hidden_counts c.args.limit n)
    (λ put. put ∙ ap (λ (m : ℕ). old ++ (codes "findings not printed", m) ∷ []) same ∙ ap (λ (l : Option ℕ). old ++ hidden_counts l n) (sym c.in-Some.is)) c.push.ensures
