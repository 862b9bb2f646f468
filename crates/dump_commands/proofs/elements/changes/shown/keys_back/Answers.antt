use Rattle.std.proofs.Common.{◌≡◌, ◌+◌, ◌-◌, ◌∙◌, ◌++◌, ◌∷◌, ℕ, List, [], ap, append_assoc, arith, get_or, reverse, sym}
use Rattle.std.proofs.lemmas.List.{map_push, reverse-append}
use denote.Ref.{Bor}
use Rattle.dump_commands.specs.elements.Cut.{texts_of}
use Rattle.dump_commands.specs.elements.Numbered.{paths_by}
use Rattle.dump_commands.specs.declared.elements.changes.numbers.Step.{Step}
use Rattle.dump_commands.proofs.elements.Leaving.{first_path}
use Rattle.dump_commands.proofs.elements.Numbering.{path_made}
use Rattle.dump_commands.proofs.elements.changes.shown.keys_back.Goals as goal

pub loop-number-smaller : goal.loop-number-smaller
loop-number-smaller c =
    let d : Step = record { before = 0; key = record { ref_ptr = (0, 0); now = [] } } in
    let made = path_made c.args.steps.now (c.loop-number.number - 1) d c.requires.order (omega (arith, c.loop-number-test.true, c.loop-number.invariant.within)) in
    omega (arith, made.1, c.loop-number-test.true)

pub loop-number-preserved : goal.loop-number-preserved
loop-number-preserved c =
    let d : Step = record { before = 0; key = record { ref_ptr = (0, 0); now = [] } } in
    let steps = c.args.steps.now in
    let n = c.loop-number.number in
    let s = get_or steps (n - 1) d in
    let keys = c.loop-number.keys.items in
    let made = path_made steps (n - 1) d c.requires.order (omega (arith, c.loop-number-test.true, c.loop-number.invariant.within)) in
    let one : 1 + (n - 1) ≡ n = omega (arith, c.loop-number-test.true) in
    let path : get_or (paths_by steps) n [] ≡ get_or (paths_by steps) s.before [] ++ s.key.now ∷ [] = ap (λ (k : ℕ). get_or (paths_by steps) k []) (sym one) ∙ made.0 in
    let more : texts_of c.push.new.self.items ≡ texts_of keys ++ s.key.now ∷ [] = ap texts_of c.in_ok-push.ensures.items ∙ map_push (λ (k : Bor (List ℕ)). k.now) keys s.key in
    let back : reverse (texts_of c.push.new.self.items) ≡ s.key.now ∷ reverse (texts_of keys) = ap reverse more ∙ reverse-append (texts_of keys) (s.key.now ∷ []) in record {
      left =
          ap (λ (ks : List (List ℕ)). get_or (paths_by steps) s.before [] ++ ks) back ∙ sym (append_assoc (get_or (paths_by steps) s.before []) (s.key.now ∷ []) (reverse (texts_of keys)))
          ∙ ap (λ (p : List (List ℕ)). p ++ reverse (texts_of keys)) (sym path) ∙ c.loop-number.invariant.left;
      within = omega (arith, made.1, c.loop-number-test.true, c.loop-number.invariant.within);
    }

pub returns : goal.returns
returns c =
    let steps = c.args.steps.now in
    let none : c.loop-number.number ≡ 0 = omega (arith, c.loop-number-test.false) in
    ap (λ (p : List (List ℕ)). p ++ reverse (texts_of c.loop-number.keys.items)) (sym (ap (λ (n : ℕ). get_or (paths_by steps) n []) none ∙ first_path steps)) ∙ c.loop-number.invariant.left
