use Rattle.std.proofs.Common.{◌≡◌, ◌++◌, ◌∷◌, ◌∙◌, [], ℕ, List, ap, arith, get_or, length, refl, subst, sym}
use Rattle.raw_form.specs.declared.token.Token.{Token}
use Rattle.dump_commands.specs.elements.Numbered.{AreWithin, at_numbers, leaves_from, leaves_in, numbers_of, paths_of}
use Rattle.dump_commands.proofs.elements.Leaving.{Goes, extends_more, extends_none, first_path, left_next, longer, within_more, within_next}
use Rattle.dump_commands.proofs.elements.Numbering.{count}
use Rattle.dump_commands.proofs.elements.changes.leaves.leaves_of.Goals as goal

pub loop-token-init : goal.loop-token-init
loop-token-init c =
    let paths = paths_of c.args.numbers.now in
    let steps = c.args.numbers.now.steps.items in
    let around : c.push.new.self.items ≡ 0 ∷ [] = c.in_ok-push.ensures.items ∙ ap (λ (ns : List ℕ). ns ++ 0 ∷ []) c.new-around.ensures.items in
    let none = c.new-leaves.ensures.items in
    let first : at_numbers paths c.push.new.self.items ≡ [] ∷ [] = ap (at_numbers paths) around ∙ (λ i. first_path steps i ∷ []) in record {
      left = (λ i. leaves_in paths (none i) ++ leaves_from c.args.bytes.now (first i) c.args.tokens.now);
      around = subst (AreWithin (length paths)) (sym around) (omega (arith, count steps), tt);
      within = subst (λ ls. AreWithin (length paths) (numbers_of ls)) (sym none) tt;
      extends = extends_none paths;
      numbered = c.requires;
    }

pub loop-token-preserved : goal.loop-token-preserved
loop-token-preserved c =
    let d : Token = record { tag = 0; depth = 0; key_at = 0; key_len = 0; payload_at = 0; payload_len = 0; inside = 0 } in
    let i = c.loop-token.token-index in
    let tokens = c.args.tokens.now in
    let t = get_or tokens i d in
    let before = paths_of c.loop-token.numbers in
    let after = paths_of c.go_on.new.numbers in
    let b = c.args.bytes.now in
    let number = c.in_ok-path.path in
    let has = c.in_ok-path.ensures.number in
    let around = c.loop-token.around.items in
    let around' = c.go_on.new.around.items in
    let is = c.in_ok-path.ensures.around in
    let old = c.loop-token.invariant in
    let goes : Goes b before after around around' t number = record { has = has; within = old.around; is = is } in record {
      left = left_next goes
          c.loop-token.leaves.items c.push_leaf.new.leaves.items tokens i d _ c.loop-token-test.true refl old.within (c.in_ok-push_leaf.ensures.leaf after) old.left;
      around = within_next goes;
      within = c.in_ok-push_leaf.ensures.numbers (length after) has.within (within_more (length before) (length after) _ (longer before after has.extends) old.within);
      extends = extends_more (paths_of c.args.numbers.now) before after old.extends has.extends;
      numbered = c.in_ok-path.ensures.numbered;
    }
