use Rattle.std.proofs.Common.{◌≢◌, ◌∙◌, ℕ, ap, decimal, inl, refl, subst, sym}
use Rattle.std.specs.Option.{option_copied}
use Rattle.bsonraw_c.specs.Iters.{HasNoElement, HasSameDocument, IsKeyAt}
use Rattle.bsonraw_c.specs.declared.iter.Iter.{Iter}
use Rattle.bsonraw_c.proofs.Iterating.{crossed}
use Rattle.bsonraw_c.proofs.Counting.{counted_more, counted_none, short_key, finds_element, finds_end, finds_fault}
use Rattle.bsonraw_c.proofs.paths.find_number.Goals as goal

pub loop-step-init : goal.loop-step-init
loop-step-init c = let g = c.in-Some.ensures.left in (
  refl,
  counted_none c.args.bytes.now c.args.number.now c.args.iter.now g.0 g.1 c.into_iter-step-iterator.result g.2
      (c.into_iter-step-iterator.ensures.into_iter_gives ∙ g.3),
)

pub stop-requires : goal.stop-requires
stop-requires c = short_key c.next.new.self c.loop-step.invariant.1 c.next.ensures.steps c.in-Err.stop (rw (← c.in-Err.is) c.in-Some-step.is)

pub returns-in-Err : goal.returns-in-Err
returns-in-Err c =
    let was = c.loop-step.invariant.0 in
    let h = c.loop-step.invariant.1 in
    let returned = crossed _ _ c.number-in-Err.ensures in
    let found = finds_fault c.next.new.self h c.next.ensures.steps c.in-Err.stop c.stop.new.self _ (rw (← c.in-Err.is) c.in-Some-step.is)
    (subst (λ (end : ℕ). IsKeyAt end c.loop-step.next (option_copied c.in-Err.stop.key) c.stop.new.self) c.end_of-end.ensures c.stop.ensures.key)
    c.stop.ensures.next c.stop.ensures.why c.stop.ensures.offset returned in
    ((subst (λ (x : Iter). HasSameDocument x c.stop.new.self) was c.stop.ensures.document, λ other. absurd (other returned)), inl (h.d, h.s, h.begins, found))

pub returns-then-is_decimal : goal.returns-then-is_decimal
returns-then-is_decimal c =
    let was = c.loop-step.invariant.0 in
    let h = c.loop-step.invariant.1 in
    let same = sym (c.is_decimal.ensures.0 c.if-is_decimal.true) in
    let found = finds_element c.next.new.self h c.next.ensures.steps c.in-Ok.element c.enter.new.self _ (rw (← c.in-Ok.is) c.in-Some-step.is) same c.enter.ensures.placed
    (crossed _ _ c.number-then-is_decimal.ensures) in
    ((subst (λ (x : Iter). HasSameDocument x c.enter.new.self) was c.enter.ensures.document, λ _. c.enter.ensures.fault ∙ ap (λ (x : Iter). x.fault) was), inl (h.d, h.s, h.begins, found))

pub loop-step-preserved : goal.loop-step-preserved
loop-step-preserved c =
    let other : decimal c.loop-step.index ≢ c.args.number.now = λ k. let yes = c.is_decimal.ensures.1 (sym k) in let no = c.if-is_decimal.false in cc in (
      c.loop-step.invariant.0,
      counted_more c.next.new.self c.loop-step.invariant.1 c.next.ensures.steps c.in-Ok.element c.behind-next.result
          (rw (← c.in-Ok.is) c.in-Some-step.is) other c.behind-next.ensures,
    )

pub returns : goal.returns
returns c =
    let was = c.loop-step.invariant.0 in
    let h = c.loop-step.invariant.1 in
    let found = finds_end c.next.new.self h c.next.ensures.steps c.leave-2.new.self _ c.in-None.is
    (subst (λ (end : ℕ). HasNoElement end c.leave-2.new.self) c.end_of-end.ensures c.leave-2.ensures.none) c.leave-2.ensures.next
    (crossed _ _ c.number-2.ensures) in
    ((subst (λ (x : Iter). HasSameDocument x c.leave-2.new.self) was c.leave-2.ensures.document, λ _. c.leave-2.ensures.fault ∙ ap (λ (x : Iter). x.fault) was), inl (h.d, h.s, h.begins, found))
