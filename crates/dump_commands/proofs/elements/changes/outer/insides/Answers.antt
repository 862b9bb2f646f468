use Rattle.std.proofs.Common.{◌≡◌, ◌<◌, ◌≤◌, ◌+◌, ◌++◌, ◌∷◌, ◌||◌, ◌∙◌, [], List, Bool, ap, arith, false, get_or, length, map, sym}
use Rattle.std.proofs.lemmas.List.{get_or_default, length-map, length_push, take_all}
use Rattle.std.specs.BTreeSet.{contains}
use Rattle.std.specs.Ordering.{nat_cmp}
use Rattle.dump_commands.specs.elements.Numbered.{at_numbers, is_in_any, paths_of}
use Rattle.dump_commands.specs.declared.elements.changes.numbers.Step.{Step}
use Rattle.dump_commands.proofs.elements.Enclosing.{inside_first, inside_next}
use Rattle.dump_commands.proofs.elements.Numbering.{count, path_made}
use Rattle.dump_commands.proofs.elements.changes.outer.insides.Goals as goal
use Rattle.dump_commands.proofs.elements.changes.outer.insides.Goals.{then-contains, else-contains}

pub loop-step-init : goal.loop-step-init
loop-step-init c =
    let first : c.push.new.self.items ≡ false ∷ [] = c.in_ok-push.ensures.items ∙ ap (λ (bs : List Bool). bs ++ false ∷ []) c.new-insides.ensures.items in record {
      few = ap length first;
      are = λ ns known all. first ∙ inside_first c.args.numbers.now ns;
    }

pub index-requires : goal.index-requires
index-requires c =
    let d : Step = record { before = 0; key = record { ref_ptr = (0, 0); now = [] } } in
    let steps = c.args.numbers.now.steps.items in
    let i = c.loop-step.step-index in
    let same = c.deref-step-items.ensures.value in
    let within : i < length steps = omega (arith, c.loop-step-test.true, ap length same) in
    omega (arith, ap (λ (ss : List Step). (get_or ss i d).before) same, (path_made steps i d c.requires.order within).1, c.loop-step.invariant.few)

pub loop-step-preserved : goal.loop-step-preserved
loop-step-preserved c =
    let d : Step = record { before = 0; key = record { ref_ptr = (0, 0); now = [] } } in
    let steps = c.args.numbers.now.steps.items in
    let i = c.loop-step.step-index in
    let old = c.loop-step.insides.items in
    let set = c.args.known.now in
    let same = c.deref-step-items.ensures.value in
    let within : i < length steps = omega (arith, c.loop-step-test.true, ap length same) in
    let before = (get_or c.deref-step-items.result.now i d).before in
    let low : before < length old =
    omega (arith, ap (λ (ss : List Step). (get_or ss i d).before) same, (path_made steps i d c.requires.order within).1, c.loop-step.invariant.few) in
    let inside : c.if-contains.inside ≡ (contains nat_cmp set before || get_or old before false) =
    elim c.if-contains.branch as (λ _. c.if-contains.inside ≡ (contains nat_cmp set before || get_or old before false)) [
      | then-contains w ↦ w.inside-is ∙ w.if-contains.true ∙ ap (λ (b : Bool). b || get_or old before false) (sym w.if-contains.true ∙ c.contains.ensures)
      | else-contains w ↦ w.inside-is ∙ w.index.ensures ∙ get_or_default old before w.index.result.now false low
          ∙ ap (λ (b : Bool). b || get_or old before false) (sym w.if-contains.false ∙ c.contains.ensures)
    ] in
    let is : c.if-contains.inside ≡ (contains nat_cmp set (get_or steps i d).before || get_or old (get_or steps i d).before false) =
    inside ∙ ap (λ (ss : List Step). contains nat_cmp set (get_or ss i d).before || get_or old (get_or ss i d).before false) same in
    let more : c.push-in-loop-step.new.self.items ≡ old ++ (contains nat_cmp set (get_or steps i d).before || get_or old (get_or steps i d).before false) ∷ [] =
    c.in_ok-push-2.ensures.items ∙ ap (λ (b : Bool). old ++ b ∷ []) is in record {
      few = omega (arith, ap length c.in_ok-push-2.ensures.items, length_push old c.if-contains.inside, c.loop-step.invariant.few);
      are = λ ns known all. more ∙ inside_next c.args.numbers.now set ns i d old c.requires known all within (c.loop-step.invariant.are ns known all);
    }

pub returns : goal.returns
returns c = λ ns known all.
    let paths = paths_of c.args.numbers.now in
    let flags = map (is_in_any (at_numbers paths ns)) paths in
    let enough : length flags ≤ c.loop-step.step-index + 1 =
    omega (arith, length-map paths (is_in_any (at_numbers paths ns)), count c.args.numbers.now.steps.items, ap length c.deref-step-items.ensures.value, c.loop-step-test.false) in
    c.loop-step.invariant.are ns known all ∙ take_all (c.loop-step.step-index + 1) flags enough
