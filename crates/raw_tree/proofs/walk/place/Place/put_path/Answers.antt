use Rattle.std.proofs.Common.{◌≡◌, ◌∙◌, ◌≤◌, ◌+◌, ◌++◌, ◌∷◌, [], ℕ, List, None, map, take, length, slice_index_or, arith, ap, sym}
use Rattle.raw_tree.proofs.walk.Common.{PathStep, filled_from}
use Rattle.raw_tree.proofs.walk.Rooms.{filled_more, filled_none, numbers_of}
use Rattle.std.proofs.lemmas.Grind.{common_steps}
use Rattle.std.proofs.lemmas.List.{map_more, take_all}
use Rattle.raw_tree.proofs.walk.place.Place.put_path.Goals as goal

pub loop-index-init : goal.loop-index-init
loop-index-init c = sym (filled_none 0 c.args.room.now)

pub loop-index-preserved : goal.loop-index-preserved
loop-index-preserved c =
    let items = c.deref-step-items.result.now in
    let index = c.loop-index.index in
    let none : PathStep = record { number = 0; key = None } in
    let first : List ℕ = map (λ (step : PathStep). step.number) (take index items) in
    let last : List ℕ = (slice_index_or items index none).number ∷ [] in
    let one : map (λ (step : PathStep). step.number) (take (index + 1) items) ≡ first ++ last = map_more (λ (step : PathStep). step.number) items index none c.loop-index-test.true in
    let few : index ≤ length items = omega (arith, c.loop-index-test.true) in
    let many : length first ≡ index = grind (arith, common_steps) in
    let put : c.put_at.new.room ≡ filled_from index c.loop-index.room last = c.put_at.ensures in
    put ∙ (ap (λ (x : List ℕ). filled_from index x last) c.loop-index.invariant
    ∙ (filled_more 0 index c.args.room.now first last (omega (arith, many)) ∙ ap (λ (x : List ℕ). filled_from 0 c.args.room.now x) (sym one)))

pub returns : goal.returns
returns c =
    let items = c.deref-step-items.result.now in
    let all : take c.loop-index.index items ≡ c.args.self.now.path.items = take_all c.loop-index.index items c.loop-index-test.false ∙ c.deref-step-items.ensures.value in
    c.loop-index.invariant ∙ (ap (λ (x : List PathStep). filled_from 0 c.args.room.now (map (λ (step : PathStep). step.number) x)) all
    ∙ ap (λ (x : List ℕ). filled_from 0 c.args.room.now x) (numbers_of c.args.self.now.path.items))
