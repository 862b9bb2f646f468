use Rattle.std.proofs.Common.{◌≡◌}
use Rattle.raw_form.proofs.canonical.Common.{faulty, frame_of, one_meaning, value}
use Rattle.raw_view.specs.Meaning.Value.{value_of}
use Rattle.raw_form.proofs.rewriting.Writing.{fails_as, leaf_of, own_of, put_as}
use Rattle.raw_form.proofs.rewriting.put_member.Goals as goal

pub unreachable-requires : goal.unreachable-requires
unreachable-requires c =
    let stands = c.requires.1.0 in
    let fault = c.in_default.ensures.fault in
    let same : value stands.0 ≡ faulty fault.0 = one_meaning (frame_of c.args.member.element) (value stands.0) (faulty fault.0) stands.1 fault.1 in
    cc

pub returns-then-is_own-clause-put : goal.returns-then-is_own-clause-put
returns-then-is_own-clause-put c t is =
    put_as c.args.member t _ _ _ c.key-key.ensures (own_of c.args.member t is (c.is_own.ensures c.if-is_own.true)) _ _ c.in_ok-put_plain.ensures.items

pub returns-in_err-put_plain-clause-err : goal.returns-in_err-put_plain-clause-err
returns-in_err-put_plain-clause-err c t is =
    fails_as c.args.member t _ _ _ c.key-key.ensures (own_of c.args.member t is (c.is_own.ensures c.if-is_own.true))
    c.from_residual.result _ _ c.from_residual.ensures.1 c.in_err-put_plain.ensures.err

pub returns-in_default-level-clause-put : goal.returns-in_default-level-clause-put
returns-in_default-level-clause-put c t is =
    let (l, single, written) = leaf_of c.args.member t is (value_of c.in-Ok.value) c.in_default-level.ensures c.in-Ok.ensures.value in
    put_as c.args.member t _ _ _ c.key-key.ensures written _ _ (c.in_ok-put_leaf.ensures.items l single)

pub returns-in_err-put_leaf-clause-err : goal.returns-in_err-put_leaf-clause-err
returns-in_err-put_leaf-clause-err c t is =
    let (l, single, written) = leaf_of c.args.member t is (value_of c.in-Ok.value) c.in_default-level.ensures c.in-Ok.ensures.value in
    fails_as c.args.member t _ _ _ c.key-key.ensures written
    c.from_residual-in_err-put_leaf.result _ _ c.from_residual-in_err-put_leaf.ensures.1 (c.in_err-put_leaf.ensures.err l single)
