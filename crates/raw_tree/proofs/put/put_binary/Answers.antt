use Rattle.std.proofs.Common.{arith, subst}
use Rattle.raw_tree.proofs.Common.{AreBytes}
use Rattle.bson_model.proofs.Face.{AreBytes-back, AreBytes-from_elements}
use Rattle.raw_tree.proofs.put.put_binary.Goals as goal

pub returns-clause-in_range : goal.returns-clause-in_range
returns-clause-in_range c =
    let all = subst AreBytes c.put.ensures.items (AreBytes-from_elements _ c.type_inv.out) in
    (omega (arith, c.to_u8-subtype.type_inv, c.to_u8-subtype.ensures), AreBytes-back c.match-binary.out.items c.args.binary.bytes.now all)
