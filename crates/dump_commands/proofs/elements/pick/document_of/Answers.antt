use Rattle.std.proofs.Common.{rules, ◌≡◌, ◌+◌, ◌≤◌, FitsSigned, arith, length, pos, subst, sym, w32}
use Rattle.raw_view.specs.Frame.Envelope.{IsEnvelope}
use Rattle.raw_view.specs.Frame.Format.{framed}
use Rattle.raw_view.proofs.Face.{AreBytes-framed, framed_is_envelope}
use Rattle.dump_commands.proofs.elements.pick.document_of.Goals as goal

pub returns-clause-envelope : goal.returns-clause-envelope
returns-clause-envelope c =
    let elements = c.args.elements.now in
    let is : c.push.new.self.items ≡ framed elements = search rules in
    let held : FitsSigned w32 (pos c.saturating_add.result) = search rules in
    let fits : 5 + length elements ≤ 2147483647 = omega (arith, held.sfits, c.saturating_add.ensures) in
    subst IsEnvelope (sym is) (framed_is_envelope elements (AreBytes-framed elements (λ i. omega (arith, c.type_inv.elements i))) fits)
