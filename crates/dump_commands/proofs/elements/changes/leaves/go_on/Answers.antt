use Rattle.std.proofs.Common.{◌≡◌, ◌++◌, ◌∷◌, ◌∙◌, [], ℕ, List, ap, arith, get_or, subst, sym}
use Rattle.dump_commands.specs.elements.Numbered.{HasNumber, at_numbers, path_after, paths_of}
use Rattle.dump_commands.proofs.elements.Leaving.{path_before, within_at}
use Rattle.dump_commands.proofs.elements.Numbering.{count}
use Rattle.dump_commands.proofs.elements.changes.leaves.go_on.Goals as goal

pub add-requires-clause-there : goal.add-requires-clause-there
add-requires-clause-there c =
    let steps = c.args.numbers.now.steps.items in
    let around = c.args.around.now.items in
    let is : c.number_at-before.result ≡ get_or around c.args.token.depth 0 = c.number_at-before.ensures ∙ ap (λ (ns : List ℕ). get_or ns c.args.token.depth 0) c.deref.ensures.value in
    omega (arith, is, within_at _ around c.args.token.depth (omega (arith, count steps)) c.requires.within)

pub returns-clause-number : goal.returns-clause-number
returns-clause-number c =
    let steps = c.args.numbers.now.steps.items in
    let paths = paths_of c.args.numbers.now in
    let around = c.args.around.now.items in
    let depth = c.args.token.depth in
    let is : c.number_at-before.result ≡ get_or around depth 0 = c.number_at-before.ensures ∙ ap (λ (ns : List ℕ). get_or ns depth 0) c.deref.ensures.value in
    let before : get_or paths c.number_at-before.result [] ≡ get_or (at_numbers paths around) depth [] = ap (λ (n : ℕ). get_or paths n []) is ∙ sym (path_before steps around depth) in
    let path : get_or paths c.number_at-before.result [] ++ c.part-key.result.now ∷ [] ≡ path_after c.args.bytes.now (at_numbers paths around) c.args.token =
    λ i. before i ++ c.part-key.ensures i ∷ [] in
    subst (λ (p : List (List ℕ)). HasNumber paths p c.in_ok-number.number (paths_of c.add.new.self)) path c.in_ok-number.ensures.number
