use Rattle.std.proofs.Common.{Bool, ℤ, of_z, subst, sym, to_z, w32}
use Rattle.bsonraw_c.specs.Iters.{FindsOn}
use Rattle.bsonraw_c.specs.Paths.{FindsNumber, FindsStep}
use Rattle.bsonraw_c.proofs.Iterating.{crosses}
use Rattle.bsonraw_c.proofs.paths.find_step.Goals as goal

pub returns-then-in_array : goal.returns-then-in_array
returns-then-in_array c =
    let found = subst (λ (z : ℤ). FindsNumber c.args.bytes.now c.args.step.now c.args.iter.now c.find_number.new.iter z)
    (sym (crosses c.find_number.result c.find_number.type_inv)) c.find_number.ensures in
    subst (λ (t : Bool). FindsStep c.args.bytes.now t c.args.step.now c.args.iter.now c.find_number.new.iter (to_z w32 (of_z w32 c.find_number.result))) (sym c.if-in_array.true) found

pub returns : goal.returns
returns c =
    let found = subst (λ (z : ℤ). FindsOn c.args.bytes.now c.args.step.now c.args.iter.now c.bsonraw_iter_find.new.iter z)
    (sym (crosses c.bsonraw_iter_find.result c.bsonraw_iter_find.type_inv)) c.bsonraw_iter_find.ensures in
    subst (λ (t : Bool). FindsStep c.args.bytes.now t c.args.step.now c.args.iter.now c.bsonraw_iter_find.new.iter (to_z w32 (of_z w32 c.bsonraw_iter_find.result))) (sym c.if-in_array.false) found
