use Rattle.std.proofs.Common.{◌≡◌, ◌∙◌, ap, arith, false, get_or, map, nat_lt, sym, true}
use Rattle.std.proofs.lemmas.List.{get_or-map, length-map}
use Rattle.dump_commands.specs.state.Measures.{Ranked, ranked_of}
use Rattle.dump_commands.proofs.state.Ranking.{passes_one, stays_there}
use Rattle.dump_commands.proofs.state.measures.place_of.Goals as goal

pub places-preserved : goal.places-preserved
places-preserved c =
    let largest = c.args.largest.now in
    let xs = map ranked_of largest in
    let i = c.places.place in
    let x = c.index-largest-place.result in
    let same : get_or xs i (ranked_of x) ≡ ranked_of x = get_or-map ranked_of largest i x (ranked_of x) c.places-test.true ∙ sym (ap ranked_of c.index-largest-place.is) in
    let no : nat_lt x.size c.args.size ≡ false = grind (arith, c.if-largest-place.true) in
    let not_shorter : nat_lt (get_or xs i (ranked_of x)).size c.args.size ≡ false = ap (λ (r : Ranked). nat_lt r.size c.args.size) same ∙ no in (
      passes_one (λ (s : Ranked). nat_lt s.size c.args.size) xs i _ (ranked_of x) (omega (arith, c.places-test.true, length-map largest ranked_of)) not_shorter c.places.invariant.0,
      omega (arith, c.places-test.true),
    )

pub returns-else-largest-place-clause-first : goal.returns-else-largest-place-clause-first
returns-else-largest-place-clause-first c =
    let largest = c.args.largest.now in
    let xs = map ranked_of largest in
    let i = c.places.place in
    let x = c.index-largest-place.result in
    let same : get_or xs i (ranked_of x) ≡ ranked_of x = get_or-map ranked_of largest i x (ranked_of x) c.places-test.true ∙ sym (ap ranked_of c.index-largest-place.is) in
    let yes : nat_lt x.size c.args.size ≡ true = grind (arith, c.if-largest-place.false) in
    let shorter : nat_lt (get_or xs i (ranked_of x)).size c.args.size ≡ true = ap (λ (r : Ranked). nat_lt r.size c.args.size) same ∙ yes in
    stays_there (λ (s : Ranked). nat_lt s.size c.args.size) xs i _ (ranked_of x) (omega (arith, c.places-test.true, length-map largest ranked_of)) shorter c.places.invariant.0
