use Rattle.std.proofs.Common.{rules, ◌≡◌, ◌∙◌, List, ℕ, not, ap}
use Rattle.std.specs.BTreeSet.{contains}
use Rattle.std.specs.Cmp.Lexicographic.{slice_cmp}
use Rattle.std.specs.Ordering.{nat_cmp}
use Rattle.dump_commands.specs.state.Forms.{digest_of}
use Rattle.dump_commands.proofs.state.Digesting.{digest_is, known_more}
use Rattle.dump_commands.proofs.state.kept.add_digest.Goals as goal

pub returns-clause-new : goal.returns-clause-new
returns-clause-new c =
    let key : c.digest.result ≡ digest_of c.args.form.now = digest_is _ _ (search rules) in
    c.unplaced.ensures.new ∙ c.in_ok-is_new.ensures.added ∙ ap (λ (k : List ℕ). not (contains (slice_cmp nat_cmp) c.args.digests.now k)) key

pub returns-clause-known : goal.returns-clause-known
returns-clause-known c d =
    let key : c.digest.result ≡ digest_of c.args.form.now = digest_is _ _ (search rules) in
    known_more c.args.digests.now c.insert.new.self c.digest.result c.args.form.now d key c.in_ok-is_new.ensures.updates
