use Rattle.std.proofs.Common.{arith, inl, inr}
use Rattle.key_set.proofs.KeySets.{last_behind}
use Rattle.key_set.proofs.key_set.is_behind.Goals as goal

pub returns-then-last-key : goal.returns-then-last-key
returns-then-last-key c t = last_behind c.args.keys.now c.in-Some.last.now c.args.key.now (c.in-Some.ensures.item.3.1 c.in-Some.last.now) (inl c.if-last-key.true)

pub returns-then-last-key-2 : goal.returns-then-last-key-2
returns-then-last-key-2 c t = last_behind c.args.keys.now c.in-Some.last.now c.args.key.now (c.in-Some.ensures.item.3.1 c.in-Some.last.now)
    (inr (c.if-last-key-2.true, grind (arith, c.lt.ensures, t)))
