use Rattle.std.proofs.Common.{◌≡◌, ◌≤◌, [], inl, inr, suc, length, rules, arith, refl, vec_len}
use Rattle.raw_tree.proofs.Common.{FirstFaultWithin, bytes_of, too_deep, err_from_is_err_and, frame_of, held_value, value_of, IsSingle, Waiting}
use Rattle.raw_tree.proofs.reader.LevelSteps.{front_inside, front_whole, levels_begin, few_frames, failed, ran_out, finished, popped, ran_out_behind, too_deep_inside, put_whole, went_in, no_more, step_smaller, inward_smaller, outward_smaller}
use Rattle.raw_tree.proofs.reader.Stacks.{Front, with_left}
use Rattle.raw_tree.proofs.reader.read.Goals as goal
use Rattle.raw_tree.proofs.reader.read.Goals.{In-Inside, In-Whole}

pub levels-init : goal.levels-init
levels-init c =
    rw c.requires.fresh (levels_begin c.in-Some.ensures.some c.new-waiting.ensures.items c.begin-level.ensures)

pub returns-in_default : goal.returns-in_default
returns-in_default c =
    let deep : FirstFaultWithin c.args.depth (bytes_of c.args.nested.document) too_deep = rw c.in_default.ensures.none ([], 0, (refl, refl, refl)) in
    (tt, inr (too_deep, deep, (c.malformed.ensures.kind, c.malformed.ensures.no_key)), inl deep)

pub look-requires : goal.look-requires
look-requires c = few_frames c.levels.invariant

pub returns-in-Fault : goal.returns-in-Fault
returns-in-Fault c =
    let at = c.in-Fault in
    rw (rw at.is at c.look.ensures.counted) (failed c.levels.invariant c.look.new.elements at.fault c.into_error.result c.into_error.ensures at.field-0
    (rw at.is at c.look.ensures.looked.finds))

-- the end of a level

pub returns-in_default-pop : goal.returns-in_default-pop
returns-in_default-pop c =
    let same : c.look.new.self ≡ c.levels.steps = omega (arith, rw c.in-End.is at c.look.ensures.counted) in
    let none = no_more (vec_len c.levels.waiting) c.levels.waiting.items c.pop.new.self.items (omega (arith, c.levels.waiting.ok.0)) c.in_default-pop.ensures.items c.in_default-pop.ensures.rest in
    rw same (finished c.levels.invariant c.look.new.elements (rw c.in-End.is at c.look.ensures.looked.finds) c.finish.result none c.finish.ensures.finished c.finish.ensures.err)

pub returns-in_err-put_ended-in-End : goal.returns-in_err-put_ended-in-End
returns-in_err-put_ended-in-End c =
    let same : c.look.new.self ≡ c.levels.steps = omega (arith, rw c.in-End.is at c.look.ensures.counted) in
    let p = err_from_is_err_and c.from_residual.result c.from_residual.ensures.1 in
    rw (p.1, p.2, same) (ran_out c.levels.invariant _ c.in_err-put_ended-in-End.ensures.err)

pub levels-smaller-in-End : goal.levels-smaller-in-End
levels-smaller-in-End c =
    rw (c.in_ok-put_ended-in-End.ensures.put.2.0) (outward_smaller _ c.levels.waiting.items c.pop.new.self.items c.in-Some-pop.outer c.in-Some-pop.ensures.items)

pub levels-preserved-in-End : goal.levels-preserved-in-End
levels-preserved-in-End c =
    let same : c.look.new.self ≡ c.levels.steps = omega (arith, rw c.in-End.is at c.look.ensures.counted) in
    rw same (popped c.levels.invariant c.look.new.elements (rw c.in-End.is at c.look.ensures.looked.finds) c.in-Some-pop.outer c.put_ended.new.outer c.in-Some-pop.ensures.items
    c.in_ok-put_ended-in-End.ensures.put)

-- an element that holds a level

inside : (c : In-Inside) → Front c.levels.invariant.reading.rest (frame_of c.in-Inside.element) (held_value c.in-Inside.inner) c.look.new.elements
inside c =
    front_inside c.levels.invariant.reading.left c.look.new.elements c.in-Inside.element c.in-Inside.inner (rw c.in-Inside.is at c.look.ensures.looked.finds)

pub returns-then-is_reached : goal.returns-then-is_reached
returns-then-is_reached c =
    let many : c.args.depth ≤ suc (length c.levels.waiting.items) = omega (arith, c.in-Some.ensures.some, c.if-is_reached.ensures.yes refl, c.len.ensures, c.levels.waiting.ok.0) in
    rw (rw c.in-Inside.is at c.look.ensures.counted)
    (too_deep_inside c.levels.invariant c.in-Inside.inner (inside (goal.at.returns-then-is_reached c).In-Inside) c.malformed-then-is_reached.result many
    (c.malformed-then-is_reached.ensures.kind, c.malformed-then-is_reached.ensures.no_key))

pub returns-in_err-push-in-Inside : goal.returns-in_err-push-in-Inside
returns-in_err-push-in-Inside c =
    let p = err_from_is_err_and c.from_residual-in_err-push-in-Inside.result c.from_residual-in_err-push-in-Inside.ensures.1 in
    rw (p.1, rw c.in-Inside.is at c.look.ensures.counted)
    (ran_out_behind c.levels.invariant (held_value c.in-Inside.inner) (inside (goal.at.returns-in_err-push-in-Inside c).In-Inside) _ p.2)

pub levels-smaller-in-Inside : goal.levels-smaller-in-Inside
levels-smaller-in-Inside c =
    let outer : Waiting = record { level = with_left c.levels.level c.look.new.elements; key = c.key-key.result } in
    inward_smaller c.levels.level c.begin-level-in-Inside.result c.levels.waiting.items c.push.new.self.items outer c.in-Inside.inner c.levels.invariant.reading.left
    (inside (goal.at.levels-smaller-in-Inside c).In-Inside) (search rules) c.begin-level-in-Inside.ensures

pub levels-preserved-in-Inside : goal.levels-preserved-in-Inside
levels-preserved-in-Inside c =
    rw (rw c.in-Inside.is at c.look.ensures.counted)
    (went_in c.levels.invariant c.in-Inside.inner (inside (goal.at.levels-preserved-in-Inside c).In-Inside) c.key-key.result c.key-key.ensures
    (omega (arith, c.in-Some.ensures.some, c.if-is_reached.ensures.no refl, c.len.ensures, c.levels.waiting.ok.0)) (search rules) c.begin-level-in-Inside.ensures)

-- an element that holds none

whole : (c : In-Whole) → Front c.levels.invariant.reading.rest (frame_of c.in-Whole.element) (value_of c.in-Whole.value) c.look.new.elements × IsSingle (value_of c.in-Whole.value)
whole c = front_whole c.levels.invariant.reading.left c.look.new.elements c.in-Whole.element c.in-Whole.value (rw c.in-Whole.is at c.look.ensures.looked.finds)

pub put_copied-requires : goal.put_copied-requires
put_copied-requires c = (whole (goal.at.put_copied-requires c).In-Whole).1

pub returns-in_err-put_copied-in-Whole : goal.returns-in_err-put_copied-in-Whole
returns-in_err-put_copied-in-Whole c =
    let p = err_from_is_err_and c.from_residual-in_err-put_copied-in-Whole.result c.from_residual-in_err-put_copied-in-Whole.ensures.1 in
    rw (p.1, p.2, rw c.in-Whole.is at c.look.ensures.counted)
    (ran_out_behind c.levels.invariant (value_of c.in-Whole.value) (whole (goal.at.returns-in_err-put_copied-in-Whole c).In-Whole).0 _ c.in_err-put_copied-in-Whole.ensures.err)

pub levels-smaller : goal.levels-smaller
levels-smaller c =
    rw c.in_ok-put_copied-in-Whole.ensures.put.2.0
    (step_smaller (value_of c.in-Whole.value) c.levels.level.elements c.look.new.elements _ c.levels.invariant.reading.left (whole (goal.at.levels-smaller c).In-Whole).0)

pub levels-preserved : goal.levels-preserved
levels-preserved c =
    rw (rw c.in-Whole.is at c.look.ensures.counted)
    (put_whole c.levels.invariant (value_of c.in-Whole.value) (whole (goal.at.levels-preserved c).In-Whole).0 c.put_copied.new.level
    (whole (goal.at.levels-preserved c).In-Whole).1 (rw c.key.ensures at c.in_ok-put_copied-in-Whole.ensures.put))
