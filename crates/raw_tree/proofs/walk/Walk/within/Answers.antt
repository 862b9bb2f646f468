use Rattle.std.proofs.Common.{◌≡◌, ◌<◌, ◌≤◌, inl, inr, arith, ap, length, refl}
use Rattle.raw_tree.proofs.Common.{bytes_of, too_deep, too_many_bytes}
use Rattle.raw_tree.proofs.walk.Walk.within.Goals as goal
use Rattle.raw_tree.proofs.walk.Walk.within.Goals.{then-as_bytes-limits, else-as_bytes-limits+in_default}

pub returns-in-Some-clause-begins : goal.returns-in-Some-clause-begins
returns-in-Some-clause-begins c = record {
  few = omega (arith, c.if-as_bytes-limits.false, ap length c.as_bytes.ensures.bytes);
  most = c.in-Some.most_waiting;
  levels = c.in-Some.ensures.some;
  come = c.new.ensures.come refl;
  none_before = c.new.ensures.number;
  none_waits = c.new.ensures.level.none_waits;
}

pub returns-clause-ends : goal.returns-clause-ends
returns-clause-ends c =
    let place = c.whole-place.ensures in
    elim c.if-as_bytes-limits.branch [
      | then-as_bytes-limits w ↦ (
          let many : c.args.limits.bytes < length (bytes_of c.args.document) = omega (arith, w.if-as_bytes-limits.true, ap length c.as_bytes.ensures.bytes) in
          (too_many_bytes, rw w.kind-is refl, inl (many, refl, place.path, place.offset)))
      | else-as_bytes-limits+in_default w ↦ (
          let few : length (bytes_of c.args.document) ≤ c.args.limits.bytes = omega (arith, w.if-as_bytes-limits.false, ap length c.as_bytes.ensures.bytes) in
          let none : c.args.limits.depth ≡ 0 = w.in_default.ensures.none in
          (too_deep, rw w.kind-is refl, inr (few, rw none (refl, place.path, place.offset))))
    ]
