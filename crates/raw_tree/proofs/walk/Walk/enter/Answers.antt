use Rattle.std.proofs.Common.{◌≤◌, ℕ, List, Some, length, arith, refl, subst}
use Rattle.raw_tree.proofs.Common.{RawElement, bytes_of, frame_of}
use Rattle.raw_tree.proofs.walk.Common.{IsBarrierAt, IsTooDeep, Level, Step, Walk, WalkError}
use Rattle.raw_tree.specs.declared.walk.barrier.BarrierKind.TheVariants as kind
use Rattle.raw_tree.specs.declared.walk.WalkError.TheVariants as error
use Rattle.raw_tree.proofs.walk.Offsets.{envelope_fits}
use Rattle.raw_tree.proofs.walk.Walk.enter.Goals as goal

too_deep : (walk : Walk) (from : Level) (path : List Step) (e : RawElement) (answer : WalkError) → walk.most_waiting ≤ length walk.waiting.items
    → IsBarrierAt path (record { number = from.number; key = Some (frame_of e).key }) from.offset kind.TooDeep answer → IsTooDeep walk from path e answer
too_deep walk from path e (error.Barrier answer) full at = (full, at)
too_deep walk from path e error.OutOfMemory full at = tt

pub returns-then-is_reached-clause-ends : goal.returns-then-is_reached-clause-ends
returns-then-is_reached-clause-ends c path stored =
    let self = c.args.self.now in
    too_deep self c.args.level.now path c.args.element c.barrier.result (omega (arith, c.if-is_reached.ensures.yes refl, c.len.ensures, self.waiting.ok.0))
    (subst (λ (k : List ℕ). IsBarrierAt path (record { number = c.args.level.now.number; key = Some k }) c.args.level.now.offset kind.TooDeep c.barrier.result) c.key.ensures
    (c.barrier.ensures path stored))

pub overflow_cast-outer-3 : goal.overflow_cast-outer-3
overflow_cast-outer-3 c = omega (arith, envelope_fits (bytes_of c.args.self.now.document) c.args.self.now.document.envelope)
