use Rattle.std.proofs.Common.{rules, ◌≡◌, ◌∙◌, List, ℕ, Option, None, Some, ap, is_some, not, sym}
use Rattle.std.specs.BTreeMap.{get}
use Rattle.std.specs.Cmp.Lexicographic.{slice_cmp}
use Rattle.std.specs.Option.{option_map}
use Rattle.std.specs.Ordering.{nat_cmp}
use Rattle.dump_commands.specs.state.Forms.{digest_of}
use Rattle.dump_io.specs.lines.Origins.{origin_of}
use Rattle.dump_io.specs.declared.lines.origin.Origin.{Origin}
use Rattle.dump_commands.proofs.state.Digesting.{digest_is, first_known, first_placed, repeat_known, repeat_placed}
use Rattle.dump_commands.proofs.state.kept.add_first.Goals as goal

pub returns-in-Some-clause-new : goal.returns-in-Some-clause-new
returns-in-Some-clause-new c =
    let m = c.args.firsts.now in
    let key : c.digest-digest.result ≡ digest_of c.args.form.now = digest_is _ _ (search rules) in
    let there : get (slice_cmp nat_cmp) m c.digest-digest.result ≡ Some c.in-Some.first.now = search rules in
    ap (λ (o : Option Origin). not (is_some o)) (sym there ∙ ap (get (slice_cmp nat_cmp) m) key)

pub returns-in-Some-clause-first : goal.returns-in-Some-clause-first
returns-in-Some-clause-first c =
    let m = c.args.firsts.now in
    let key : c.digest-digest.result ≡ digest_of c.args.form.now = digest_is _ _ (search rules) in
    let there : get (slice_cmp nat_cmp) m c.digest-digest.result ≡ Some c.in-Some.first.now = search rules in
    ap (option_map origin_of) (sym there ∙ ap (get (slice_cmp nat_cmp) m) key)

pub returns-in-Some-clause-known : goal.returns-in-Some-clause-known
returns-in-Some-clause-known c d =
    let m = c.args.firsts.now in
    let key : c.digest-digest.result ≡ digest_of c.args.form.now = digest_is _ _ (search rules) in
    let there : get (slice_cmp nat_cmp) m c.digest-digest.result ≡ Some c.in-Some.first.now = search rules in
    repeat_known m c.digest-digest.result c.args.form.now d key c.in-Some.first.now there

pub returns-in-Some-clause-places : goal.returns-in-Some-clause-places
returns-in-Some-clause-places c =
    let m = c.args.firsts.now in
    let key : c.digest-digest.result ≡ digest_of c.args.form.now = digest_is _ _ (search rules) in
    let there : get (slice_cmp nat_cmp) m c.digest-digest.result ≡ Some c.in-Some.first.now = search rules in
    λ i. Some (λ (d : List ℕ). repeat_placed m c.digest-digest.result c.args.form.now d key c.in-Some.first.now (origin_of c.args.origin) there i)

pub returns-clause-new : goal.returns-clause-new
returns-clause-new c =
    let m = c.args.firsts.now in
    let key : c.digest-digest.result ≡ digest_of c.args.form.now = digest_is _ _ (search rules) in
    let none : get (slice_cmp nat_cmp) m c.digest-digest.result ≡ None = search rules in
    ap (λ (o : Option Origin). not (is_some o)) (sym none ∙ ap (get (slice_cmp nat_cmp) m) key)

pub returns-clause-first : goal.returns-clause-first
returns-clause-first c =
    let m = c.args.firsts.now in
    let key : c.digest-digest.result ≡ digest_of c.args.form.now = digest_is _ _ (search rules) in
    let none : get (slice_cmp nat_cmp) m c.digest-digest.result ≡ None = search rules in
    ap (option_map origin_of) (sym none ∙ ap (get (slice_cmp nat_cmp) m) key)

pub returns-clause-known : goal.returns-clause-known
returns-clause-known c d =
    let m = c.args.firsts.now in
    let key : c.digest-digest.result ≡ digest_of c.args.form.now = digest_is _ _ (search rules) in
    first_known m c.digest-digest.result c.args.form.now d key c.args.origin c.insert.new.self c.in_ok-insert.ensures.updates

pub returns-clause-places : goal.returns-clause-places
returns-clause-places c =
    let m = c.args.firsts.now in
    let key : c.digest-digest.result ≡ digest_of c.args.form.now = digest_is _ _ (search rules) in
    let none : get (slice_cmp nat_cmp) m c.digest-digest.result ≡ None = search rules in
    λ i. Some (λ (d : List ℕ). first_placed m c.digest-digest.result c.args.form.now d key c.args.origin c.insert.new.self c.in_ok-insert.ensures.updates none i)
