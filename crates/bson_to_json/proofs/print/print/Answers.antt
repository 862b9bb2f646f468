use Rattle.bson_to_json.proofs.Common.{Grows, GrowsFront, PutsEvent}
use Rattle.std.proofs.Common.{◌++◌, ◌∷◌, ◌≡◌, ◌∙◌, List, ℕ, Bool, true, false, subst}
use Rattle.bson_to_json.proofs.Blocks.{IsHeld, held_more, held_moves, held_whole, print_barred, print_ends_early, print_fails, print_stops, told_as}
use Rattle.bson_to_json.proofs.Walking.{Adds, going_is_front, going_on, going_suits}
use Rattle.bson_to_json.proofs.print.print.Given as given
use Rattle.bson_to_json.proofs.print.print.Goals as goal
use Rattle.bson_to_json.proofs.print.print.Goals.{In_ok-ended}

pub returns-in_err-unseen-clause-told : goal.returns-in_err-unseen-clause-told
returns-in_err-unseen-clause-told g c =
    let e = c.from_residual-in_err-unseen in
    let (told, is, held, guard, same) = c.events.invariant in
    told_as _ e.result _ e.ensures.1
    (print_stops c.args.style held (going_is_front is) is.few c.args.careful c.events.unseen (λ safe. guard safe) c.pass_on.new.out _ c.in_err-unseen.ensures.told)

pub returns-in_err-event-clause-told : goal.returns-in_err-event-clause-told
returns-in_err-event-clause-told g c =
    let e = c.from_residual-in_err-event in
    let (told, is, held, guard, same) = c.events.invariant in
    let moved = held_moves held c.pass_on.new.out c.pass_on.new.block.items c.in_ok-unseen.ensures.moved in
    told_as _ e.result _ e.ensures.1 (print_barred c.args.style moved (going_is_front is) is.few c.args.careful c.in_ok-unseen.unseen
    (λ safe. c.in_ok-unseen.ensures.guard c.args.out.now (guard safe)) is.most c.in_err-event.field-0.0 is.levels (c.in_err-event.ensures.event c.args.document is.most is.seen is.come).0)

pub put_event-requires : goal.put_event-requires
put_event-requires g c =
    let is = c.events.invariant.1 in
    going_suits is c.next.new.self c.next.new.level c.in_ok-event.event (c.in_ok-event.ensures.event c.args.document is.most is.seen is.come)

pub returns-in_err-ended-clause-told : goal.returns-in_err-ended-clause-told
returns-in_err-ended-clause-told g c =
    let e = c.from_residual-in_err-ended in
    let (told, is, held, guard, same) = c.events.invariant in
    let moved = held_moves held c.pass_on.new.out c.pass_on.new.block.items c.in_ok-unseen.ensures.moved in
    told_as _ e.result _ e.ensures.1 (rw c.in_err-ended.ensures.failed (print_fails c.args.style moved (going_is_front is) is.few c.args.careful c.in_ok-unseen.unseen
    (λ safe. c.in_ok-unseen.ensures.guard c.args.out.now (guard safe))))

-- after an event
behind_event : (g : given.Over) (c : In_ok-ended g) (ended : Bool) → c.in_ok-ended.ended ≡ ended
    → (piece : List ℕ) × IsHeld g.S.Sink.has c.args.out.now c.pass_on.new.out c.put_event.new.block.items (123 ∷ (c.events.invariant.0 ++ piece))
    × Adds c.events.invariant.1 c.next.new.self c.next.new.level c.put_event.new.sorts.items c.put_event.new.sort ended piece
behind_event g c ended end =
    let (told, is, held, guard, same) = c.events.invariant in
    let (piece, put, adds) = going_on is c.next.new.self c.next.new.level c.put_event.new.sorts.items c.put_event.new.sort c.pass_on.new.block.items c.put_event.new.block.items ended
    c.in_ok-event.event (c.in_ok-event.ensures.event c.args.document is.most is.seen is.come)
    (subst (PutsEvent c.args.style _ c.in_ok-event.event c.events.sorts.items c.events.sort c.pass_on.new.block.items _ _ _) end c.in_ok-ended.ensures.put) in
    (piece, held_more (held_moves held c.pass_on.new.out c.pass_on.new.block.items c.in_ok-unseen.ensures.moved) piece c.put_event.new.block.items put, adds)

pub events-preserved : goal.events-preserved
events-preserved g c =
    let (piece, held, adds) = behind_event g (goal.at.events-preserved g c).In_ok-ended false c.if-ended.false in
    (c.events.invariant.0 ++ piece, adds.0, held, λ safe. c.in_ok-unseen.ensures.guard c.args.out.now (c.events.invariant.3 safe), c.in_ok-unseen.ensures.same ∙ c.events.invariant.4)

pub events-smaller : goal.events-smaller
events-smaller g c = (behind_event g (goal.at.events-smaller g c).In_ok-ended false c.if-ended.false).2.1

pub returns-in_err-accept-clause-told : goal.returns-in_err-accept-clause-told
returns-in_err-accept-clause-told g c =
    let e = c.from_residual-in_err-accept in
    let (piece, held, adds) = behind_event g (goal.at.returns-in_err-accept-clause-told g c).In_ok-ended true c.if-ended.true in
    let front = subst (GrowsFront g.S.Sink.has c.pass_on.new.out c.accept.new.self) c.deref.ensures.value c.in_err-accept.ensures.front in
    told_as _ e.result _ e.ensures.1 (print_ends_early c.args.style c.args.careful c.accept.new.self c.in_err-accept.field-0.0 held adds.0 (adds.1, adds.2) front)

pub returns-then-ended-clause-text : goal.returns-then-ended-clause-text
returns-then-ended-clause-text g c =
    let (piece, held, adds) = behind_event g (goal.at.returns-then-ended-clause-text g c).In_ok-ended true c.if-ended.true in
    (_, adds.0, held_whole held c.accept.new.self (subst (Grows g.S.Sink.has c.pass_on.new.out c.accept.new.self) c.deref.ensures.value c.in_ok-accept.ensures.taken))

pub returns-then-ended-clause-within : goal.returns-then-ended-clause-within
returns-then-ended-clause-within g c =
    let (piece, held, adds) = behind_event g (goal.at.returns-then-ended-clause-within g c).In_ok-ended true c.if-ended.true in (adds.1, adds.2)
