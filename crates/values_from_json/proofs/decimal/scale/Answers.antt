use Rattle.std.proofs.Common.{refl}
use Rattle.values_from_json.proofs.Decimals.{moved, none_exact, reaches_down, reaches_up}
use Rattle.values_from_json.proofs.decimal.scale.Goals as goal

pub returns-then-is_negative-clause-some : goal.returns-then-is_negative-clause-some
returns-then-is_negative-clause-some c =
    λ x is. let k = c.args.kept in
    rw c.if-is_negative.true
    (moved k.coefficient k.zeros _ _ _ _ k.room
    (reaches_down x c.args.exponent k.zeros _ c.args.after_point c.from-zeros.ensures c.requires.zeros c.requires.after_point is) _ c.settle.ensures.some)

pub returns-then-is_negative-clause-none : goal.returns-then-is_negative-clause-none
returns-then-is_negative-clause-none c =
    λ x is none. let k = c.args.kept in
    rw c.if-is_negative.true
    (none_exact _ k.coefficient k.zeros refl k.room
    (reaches_down x c.args.exponent k.zeros _ c.args.after_point c.from-zeros.ensures c.requires.zeros c.requires.after_point is) (c.settle.ensures.none none))

pub returns-clause-some : goal.returns-clause-some
returns-clause-some c =
    λ x is. let k = c.args.kept in
    rw c.if-is_negative.false
    (moved k.coefficient k.zeros _ _ _ _ k.room
    (reaches_up x c.args.exponent k.zeros _ c.args.after_point c.from-zeros.ensures c.requires.zeros c.requires.after_point is) _ c.settle-2.ensures.some)

pub returns-clause-none : goal.returns-clause-none
returns-clause-none c =
    λ x is none. let k = c.args.kept in
    rw c.if-is_negative.false
    (none_exact _ k.coefficient k.zeros refl k.room
    (reaches_up x c.args.exponent k.zeros _ c.args.after_point c.from-zeros.ensures c.requires.zeros c.requires.after_point is) (c.settle-2.ensures.none none))
