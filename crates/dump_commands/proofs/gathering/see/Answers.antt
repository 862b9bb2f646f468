use Rattle.std.proofs.Common.{◌≡◌, ◌∙◌, Some, refl, rules, subst, sym}
use Rattle.dump_io.proofs.Face.{on_ok}
use Rattle.dump_commands.specs.Gathering.{AreSeen}
use Rattle.dump_commands.specs.Making.{picking_of}
use Rattle.dump_commands.specs.elements.Having.{HasEach}
use Rattle.dump_commands.specs.elements.Pick.{comma, parts}
use Rattle.dump_commands.proofs.Gathers.{gathers_one}
use Rattle.dump_commands.proofs.gathering.see.Goals as goal

pub returns-in_ok-flags-in-Some-Canonical-clause-counted : goal.returns-in_ok-flags-in-Some-Canonical-clause-counted
returns-in_ok-flags-in-Some-Canonical-clause-counted c =
    let picking = c.in-Some-Canonical.picking in
    let b = c.args.bytes.now in
    let picks : picking_of c.args.making ≡ Some picking = sym c.picking.ensures ∙ c.in-Some-Canonical.is-0 in
    let has = subst (HasEach picking.choice b (parts comma picking.paths.now)) (sym c.deref.ensures.value) c.in_ok-flags-in-Some-Canonical.ensures in
    rw picks (on_ok c.see.result _ _ (λ added. gathers_one (AreSeen picking b) c.args.finding _ c.args.kept.now c.see.new.self (search rules) (c.deref.result.now, has, refl) added)
    c.see.ensures.added)
