use Rattle.std.proofs.Common.{[], ◌∷◌, ◌∙◌, Bool, ap, refl, rules, subst, sym}
use Rattle.raw_form.specs.Tokens.{HasTokens}
use Rattle.dump_io.specs.lines.Origins.{origin_of}
use Rattle.dump_io.proofs.Face.{on_ok}
use Rattle.dump_commands.specs.Gathering.{AreFields, HasSide}
use Rattle.dump_commands.specs.diff.Sides.{is_old, side_of}
use Rattle.dump_commands.specs.state.Gathered.{of_side, tabled, with_document}
use Rattle.dump_commands.proofs.Gathers.{gathers_one}
use Rattle.dump_commands.proofs.gathering.gather.Goals as goal

pub returns-in_ok-tokens-in-Fields-Canonical-clause-counted : goal.returns-in_ok-tokens-in-Fields-Canonical-clause-counted
returns-in_ok-tokens-in-Fields-Canonical-clause-counted c =
    let b = c.args.bytes.now in
    let limits = c.args.limits in
    let has = subst (HasTokens limits.depth 0 0 b) (sym c.deref.ensures.value) c.in_ok-tokens-in-Fields-Canonical.ensures.tokens in
    rw c.in-Fields-Canonical.is-0 (on_ok c.add_document.result _ _
    (λ added. gathers_one (AreFields limits (origin_of c.args.origin) b) c.args.finding _ c.args.kept.now c.add_document.new.self (search rules) (c.deref.result.now, has, refl) added)
    c.add_document.ensures.added)

pub returns-in-Measure-default-clause-counted : goal.returns-in-Measure-default-clause-counted
returns-in-Measure-default-clause-counted c =
    rw c.in-Measure-default.is-0 (on_ok c.measure.result _ _ (λ added. (added.0 ∷ [], (added.0, added.1, refl), added.2)) c.measure.ensures.added)

pub returns-in_ok-side-in-Differences-Canonical-clause-counted : goal.returns-in_ok-side-in-Differences-Canonical-clause-counted
returns-in_ok-side-in-Differences-Canonical-clause-counted c =
    let place = origin_of c.args.origin in
    let b = c.args.bytes.now in
    let k = c.args.kept.now in
    let comparing = c.in-Differences-Canonical.comparing in
    let s = side_of c.in_ok-side-in-Differences-Canonical.side in
    rw c.in-Differences-Canonical.is-0 (on_ok c.add_side.result _ _
    (λ added. gathers_one (HasSide c.args.limits comparing place b) c.args.finding (of_side (is_old comparing place) s) k c.add_side.new.self (search rules)
    (s, c.in_ok-side-in-Differences-Canonical.ensures.side, refl) (added ∙ ap (λ (o : Bool). with_document (tabled k) (of_side o s)) c.is_old.ensures))
    c.add_side.ensures.added)
