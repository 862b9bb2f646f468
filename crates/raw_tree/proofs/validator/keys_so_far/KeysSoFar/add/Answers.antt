use Rattle.std.proofs.lemmas.Bool.{iff_false}
use Rattle.raw_tree.proofs.validator.LevelKeys.{distinct_breach, distinct_more, numbers_more, numbers_breach}
use Rattle.raw_tree.proofs.validator.keys_so_far.KeysSoFar.add.Goals as goal

pub returns-then-is_decimal-clause-adds : goal.returns-then-is_decimal-clause-adds
returns-then-is_decimal-clause-adds c = rw (c.in-Numbers.is) (numbers_more c.args.listed.now.items c.args.number c.args.key.now (c.is_decimal.ensures.0 c.if-is_decimal.true))

pub returns-else-is_decimal-clause-adds : goal.returns-else-is_decimal-clause-adds
returns-else-is_decimal-clause-adds c = rw (c.in-Numbers.is) (numbers_breach c.args.listed.now.items c.args.number c.args.key.now (iff_false c.is_decimal.ensures c.if-is_decimal.false))

pub returns-in-Some-clause-adds : goal.returns-in-Some-clause-adds
returns-in-Some-clause-adds c =
    rw c.in-Distinct.is (distinct_breach c.in-Distinct.keys c.add.new.self c.args.listed.now.items c.add.new.listed.items c.args.number c.args.key.now c.in-Some.field-0
    (rw c.in-Some.is at c.in_ok-add-in-Distinct.ensures.adds))

pub returns-in_default-clause-adds : goal.returns-in_default-clause-adds
returns-in_default-clause-adds c =
    rw c.in-Distinct.is (distinct_more c.in-Distinct.keys c.add.new.self c.args.listed.now.items c.add.new.listed.items c.args.number c.args.key.now
    (rw c.in_default.is at c.in_ok-add-in-Distinct.ensures.adds))
