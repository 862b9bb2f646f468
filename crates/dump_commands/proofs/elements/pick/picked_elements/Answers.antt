use Rattle.std.proofs.Common.{◌≡◌, ◌++◌, [], List, ℕ, arith, rules, subst, sym}
use Rattle.std.proofs.lemmas.Str.Pattern.{split_parts}
use Rattle.raw_view.specs.Document.{bytes_of}
use Rattle.dump_commands.specs.elements.Pick.{PicksEach, comma, parts}
use Rattle.dump_commands.proofs.elements.Picked.{picks_last, picks_more}
use Rattle.dump_commands.proofs.elements.pick.picked_elements.Goals as goal

pub paths-init : goal.paths-init
paths-init c =
    let b = bytes_of c.args.document in
    let none : c.new-elements.result.items ≡ [] = search rules in
    (λ elements picks. subst (λ (x : List ℕ). PicksEach b (parts comma c.args.paths.now) (x ++ elements)) (sym none) picks, search rules)

pub paths-preserved : goal.paths-preserved
paths-preserved c =
    let l = c.paths in
    let b = bytes_of c.args.document in
    let cut = rw c.in-Some.is at (split_parts comma l.rest.now c.split_once.result c.split_once.ensures.cases (omega arith)) in
    let (goal, leads, is) = c.in_ok-pick_one.ensures in (
      λ elements picks. subst (λ (x : List ℕ). PicksEach b (parts comma c.args.paths.now) (x ++ elements)) (sym is)
          (picks_more b c.args.paths.now l.elements.items l.rest.now c.in-Some.path.now c.in-Some.more.now goal l.invariant.0 cut.0 cut.1 leads elements picks),
      search rules,
    )

pub returns : goal.returns
returns c =
    let l = c.paths in
    let b = bytes_of c.args.document in
    let last = rw c.in_default.is at (split_parts comma l.rest.now c.split_once.result c.split_once.ensures.cases (omega arith)) in
    let (goal, leads, is) = c.in_ok-pick_one-2.ensures in
    subst (PicksEach b (parts comma c.args.paths.now)) (sym is) (picks_last b c.args.paths.now l.elements.items l.rest.now goal l.invariant.0 last leads)
