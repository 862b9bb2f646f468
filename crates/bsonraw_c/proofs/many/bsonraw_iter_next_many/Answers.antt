use Rattle.std.proofs.Common.{◌∙◌, ℕ, ap, arith, inl, length, refl, subst}
use Rattle.std.specs.Option.{option_copied}
use Rattle.bsonraw_c.specs.Iters.{HasNoElement, HasSameDocument, IsKeyAt}
use Rattle.bsonraw_c.specs.declared.iter.Iter.{Iter}
use Rattle.bsonraw_c.proofs.Filling.{filled_more, filled_none, fills_all, fills_end, fills_fault}
use Rattle.bsonraw_c.proofs.Iterating.{crossed}
use Rattle.bsonraw_c.proofs.many.bsonraw_iter_next_many.Goals as goal

pub loop-index-init : goal.loop-index-init
loop-index-init c = let g = c.in-Some.ensures.left in (refl, filled_none c.args.bytes.now c.args.iter.now g.0 g.1 c.args.entries.now c.in-Some.elements g.2 g.3)

pub returns-in-Some-Err : goal.returns-in-Some-Err
returns-in-Some-Err c =
    let was = c.loop-index.invariant.0 in
    let h = c.loop-index.invariant.1 in
    let same = subst (λ (x : Iter). HasSameDocument x c.stop.new.self) was c.stop.ensures.document in
    let returned = crossed _ _ c.number-in-Some-Err.ensures in
    let key = subst (λ (end : ℕ). IsKeyAt end c.loop-index.next (option_copied c.in-Some-Err.stop.key) c.stop.new.self) c.end_of-end.ensures c.stop.ensures.key in
    let gone = fills_fault c.next.new.self h c.next.ensures.steps c.in-Some-Err.stop
    (rw (← c.in-Some-Err.field-0-is) c.in-Some-Err.is) same c.stop.ensures.next
    (omega (arith, c.loop-index-test.true, c.loop-index.auto.entries)) key c.stop.ensures.why c.stop.ensures.offset returned in
    ((same, λ other. absurd (other returned)), inl (h.d, h.s, h.begins, gone))

pub returns-in-None : goal.returns-in-None
returns-in-None c =
    let was = c.loop-index.invariant.0 in
    let h = c.loop-index.invariant.1 in
    let same = subst (λ (x : Iter). HasSameDocument x c.leave-in-None.new.self) was c.leave-in-None.ensures.document in
    let none = subst (λ (end : ℕ). HasNoElement end c.leave-in-None.new.self) c.end_of-end.ensures c.leave-in-None.ensures.none in
    let gone = fills_end c.next.new.self h c.next.ensures.steps c.leave-in-None.new.self _ c.in-None.is same c.leave-in-None.ensures.next
    (omega (arith, c.loop-index-test.true, c.loop-index.auto.entries)) none (crossed _ _ c.number-in-None.ensures) in
    ((same, λ _. c.leave-in-None.ensures.fault ∙ ap (λ (x : Iter). x.fault) was), inl (h.d, h.s, h.begins, gone))

pub loop-index-preserved : goal.loop-index-preserved
loop-index-preserved c = (
  c.loop-index.invariant.0,
  filled_more c.next.new.self c.loop-index.invariant.1 c.next.ensures.steps c.in-Some-Ok.element c.at.result
      c.behind-next.result (rw (← c.in-Some-Ok.field-0-is) c.in-Some-Ok.is)
      (omega (arith, c.loop-index-test.true, c.loop-index.auto.entries)) c.at.ensures c.behind-next.ensures,
)

pub returns : goal.returns
returns c =
    let was = c.loop-index.invariant.0 in
    let h = c.loop-index.invariant.1 in
    let same = subst (λ (x : Iter). HasSameDocument x c.leave-2.new.self) was c.leave-2.ensures.document in
    let none = subst (λ (end : ℕ). HasNoElement end c.leave-2.new.self) c.end_of-end.ensures c.leave-2.ensures.none in
    let gone = fills_all c.leave-2.new.self (length c.loop-index.entries) h _ same c.leave-2.ensures.next
    (omega (arith, c.loop-index-test.false, c.loop-index.auto.entries, c.loop-index.auto.index-end))
    (omega (arith, c.loop-index-test.false, c.loop-index.auto.entries, c.loop-index.auto.index-end)) none (crossed _ _ c.number-2.ensures) in
    ((same, λ _. c.leave-2.ensures.fault ∙ ap (λ (x : Iter). x.fault) was), inl (h.d, h.s, h.begins, gone))
