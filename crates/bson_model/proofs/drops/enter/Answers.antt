use Rattle.std.proofs.Common.{◌≡◌, ◌<◌, [], length, ap, arith}
use Rattle.std.proofs.lemmas.List.{nil_from_length}
use Rattle.bson_model.proofs.LeftTrees.{less-cut, is_less-inside, is_less-outside}
use Rattle.bson_model.proofs.drops.enter.Goals as goal

pub returns-then-is_empty-clause-less : goal.returns-then-is_empty-clause-less
returns-then-is_empty-clause-less c = λ t m. less-cut _ _ c.args.held.now.items c.next_of.ensures.cut t

pub returns-then-is_empty-2-clause-less : goal.returns-then-is_empty-2-clause-less
returns-then-is_empty-2-clause-less c =
    let values : c.replace.new.dest.items ≡ c.args.values.items = ap (λ v. v.items) c.replace.ensures.after in
    let none : c.args.held.now.items ≡ [] = nil_from_length c.args.held.now.items (grind (arith, c.args.held.now.ok.0, c.is_empty-2.ensures, c.if-is_empty-2.ensures)) in
    rw none (is_less-inside _ _ c.args.values.items (rw values at c.next_of-then-is_empty-2.ensures.cut))

pub returns-clause-less : goal.returns-clause-less
returns-clause-less c =
    let values : c.replace-outer.new.dest.items ≡ c.args.values.items = ap (λ v. v.items) c.replace-outer.ensures.after in
    let outer : c.replace-outer.result.items ≡ c.args.held.now.items = ap (λ v. v.items) c.replace-outer.ensures.value in
    let held : 0 < length c.replace-outer.result.items = grind (arith, outer, c.args.held.now.ok.0, c.if-is_empty-2.ensures) in
    let some : 0 < length c.replace-outer.new.dest.items = grind (arith, values, c.args.values.ok.0, c.if-is_empty.ensures) in
    rw (c.replace-2.ensures.after, ← outer, ← values) (is_less-outside c.replace-outer.result c.replace-outer.new.dest.items c.replace-2.result held some
    (rw c.replace-2.ensures.value c.index_mut.ensures.value))
