use Rattle.std.proofs.Common.{◌++◌, ◌∷◌, [], ◌∙◌, List, decimal, ap, arith, refl, subst, sym, length-append}
use Rattle.std.proofs.lemmas.Result.{err_from_is_err_and}
use Rattle.raw_view.specs.Frame.{Frame}
use Rattle.raw_bson.specs.Append.{HoldsFrames, value_frame}
use Rattle.raw_bson.specs.Fills.{TakesValue, empty_array, frames_from}
use Rattle.raw_bson.specs.Owned.{owned_value}
use Rattle.raw_bson.proofs.Filling.{takes_more, filled, drained, refused}
use Rattle.raw_bson.proofs.HeldFrames.{HoldsFrames-empty, HoldsFrames-value, frames_from_zero-more}
use Rattle.raw_bson.proofs.array_buf.RawArrayBuf.from_iter.Goals as goal

pub loop-value-init : goal.loop-value-init
loop-value-init g c =
    let empty = c.in_ok-array.ensures.empty in
    (empty, HoldsFrames-empty c.in_ok-array.array.bytes (ap (λ a. a.bytes) empty), ap (λ a. a.count) empty)

pub loop-value-preserved : goal.loop-value-preserved
loop-value-preserved g c =
    let inv = c.loop-value.invariant in
    let values = c.loop-value.yielded in
    let v = c.in-Some.value in
    let held = HoldsFrames-value c.loop-value.array.bytes (frames_from 0 values) (decimal c.loop-value.array.count) (owned_value v) c.push.new.self.bytes inv.1 c.in_ok-push.ensures.walk in
    let place = ap (λ n. frames_from 0 values ++ value_frame (decimal n) (owned_value v) ∷ []) inv.2 ∙ sym (frames_from_zero-more values v) in (
      takes_more TakesValue _ values c.loop-value.array v c.push.new.self inv.0 c.in_ok-push.ensures.pushes,
      subst (λ (fs : List Frame). HoldsFrames c.push.new.self.bytes fs) place held,
      omega (arith, inv.2, c.in_ok-push.ensures.pushes.1, length-append values (v ∷ [])),
    )

pub returns-in_err-push-clause-fills : goal.returns-in_err-push-clause-fills
returns-in_err-push-clause-fills g c =
    let e = err_from_is_err_and c.from_residual-in_err-push.result c.from_residual-in_err-push.ensures.1 in
    let h = c.in_err-push.ensures.pushes in
    rw e.1 (refused TakesValue empty_array g.I.Iterator.next_gives c.args.values c.into_iter-value-iterator.result
    c.loop-value.yielded c.in-Some.value c.into_iter-value-iterator.ensures.into_iter_gives
    c.loop-value.yielded_by c.in-Some.ensures.steps c.loop-value.invariant.0 ((rw e.2 h.0.0, rw e.2 h.0.1, refl), refl))

pub returns-clause-fills : goal.returns-clause-fills
returns-clause-fills g c = filled TakesValue empty_array c.loop-value.array g.I.Iterator.next_gives c.args.values c.into_iter-value-iterator.result
    c.loop-value.yielded c.into_iter-value-iterator.ensures.into_iter_gives c.loop-value.yielded_by
    c.in-None.ensures.steps c.loop-value.invariant.0

pub returns-clause-walk : goal.returns-clause-walk
returns-clause-walk g c = (
  c.loop-value.yielded,
  drained g.I.Iterator.next_gives c.args.values c.into_iter-value-iterator.result c.loop-value.value-iterator
      c.next.new.self c.loop-value.yielded c.into_iter-value-iterator.ensures.into_iter_gives c.loop-value.yielded_by c.in-None.ensures.steps,
  c.loop-value.invariant.0,
  c.loop-value.invariant.1,
)
