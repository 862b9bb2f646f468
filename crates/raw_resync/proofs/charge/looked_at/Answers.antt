use Rattle.std.proofs.Common.{rules, ◌≡◌, ◌∷◌, ◌+◌, ◌-◌, MatchBool, drop, length, min, subst, sym, List, ℕ}
use Rattle.raw_view.specs.Document.{bytes_of}
use Rattle.raw_tree.specs.Barriers.{steps_of}
use Rattle.raw_resync.specs.Charge.{IsOfValue, LooksAt}
use Rattle.raw_resync.proofs.Charging.{looks_all, looks_key, looks_regex, looks_value}
use Rattle.raw_resync.proofs.charge.looked_at.Goals as goal

pub returns-in_default-behind_zero-clause-looks : goal.returns-in_default-behind_zero-clause-looks
returns-in_default-behind_zero-clause-looks c x is =
    let rest : List ℕ = c.split_at.result.1.now in
    let same : rest ≡ drop c.args.barrier.now.place.offset (bytes_of c.args.document) = search rules in
    let split : rest ≡ c.in-Some.tag.now ∷ c.in-Some.text.now = search rules in
    subst (λ s. LooksAt x (steps_of c.args.barrier.now.place) s (length rest)) same
    (looks_all x (steps_of c.args.barrier.now.place) rest c.in-Some.text.now c.in-Some.tag.now split c.in_default-behind_zero.ensures.none)

pub returns-then-tag-eq-REGULAR_EXPRESSION-clause-looks : goal.returns-then-tag-eq-REGULAR_EXPRESSION-clause-looks
returns-then-tag-eq-REGULAR_EXPRESSION-clause-looks c x is =
    let rest : List ℕ = c.split_at.result.1.now in
    let same : rest ≡ drop c.args.barrier.now.place.offset (bytes_of c.args.document) = search rules in
    let split : rest ≡ c.in-Some.tag.now ∷ c.in-Some.text.now = search rules in
    let tag : c.in-Some.tag.now ≡ 11 = c.if-tag-eq-REGULAR_EXPRESSION.true in
    subst (λ s. LooksAt x (steps_of c.args.barrier.now.place) s (length rest - length c.in-Some-behind_zero.behind.now + c.looked_at_regex.result)) same
    (looks_regex x (steps_of c.args.barrier.now.place) rest c.in-Some.text.now c.in-Some-behind_zero.behind.now c.in-Some.tag.now split c.in-Some-behind_zero.ensures.found
    c.looked_at_regex.result tag c.looked_at_regex.ensures)

pub returns-then-is_of_value-clause-looks : goal.returns-then-is_of_value-clause-looks
returns-then-is_of_value-clause-looks c x is =
    let rest : List ℕ = c.split_at.result.1.now in
    let same : rest ≡ drop c.args.barrier.now.place.offset (bytes_of c.args.document) = search rules in
    let split : rest ≡ c.in-Some.tag.now ∷ c.in-Some.text.now = search rules in
    let path = steps_of c.args.barrier.now.place in
    let value = subst (λ r. MatchBool r (IsOfValue c.in-Some.tag.now x path) (¬ IsOfValue c.in-Some.tag.now x path)) c.if-is_of_value.true (c.is_of_value.ensures x is) in
    let looks = looks_value x (steps_of c.args.barrier.now.place) rest c.in-Some.text.now c.in-Some-behind_zero.behind.now c.in-Some.tag.now split c.in-Some-behind_zero.ensures.found
    c.length_in_front.result c.if-tag-eq-REGULAR_EXPRESSION.false value c.length_in_front.ensures.front in
    let least : c.min.result ≡ min (length rest) (length rest - length c.in-Some-behind_zero.behind.now + c.length_in_front.result + 16) = search rules in
    subst (λ n. LooksAt x (steps_of c.args.barrier.now.place) (drop c.args.barrier.now.place.offset (bytes_of c.args.document)) n) (sym least)
    (subst (λ s. LooksAt x (steps_of c.args.barrier.now.place) s (min (length rest) (length rest - length c.in-Some-behind_zero.behind.now + c.length_in_front.result + 16))) same looks)

pub returns-clause-looks : goal.returns-clause-looks
returns-clause-looks c x is =
    let rest : List ℕ = c.split_at.result.1.now in
    let same : rest ≡ drop c.args.barrier.now.place.offset (bytes_of c.args.document) = search rules in
    let split : rest ≡ c.in-Some.tag.now ∷ c.in-Some.text.now = search rules in
    let path = steps_of c.args.barrier.now.place in
    let none = subst (λ r. MatchBool r (IsOfValue c.in-Some.tag.now x path) (¬ IsOfValue c.in-Some.tag.now x path)) c.if-is_of_value.false (c.is_of_value.ensures x is) in
    subst (λ s. LooksAt x (steps_of c.args.barrier.now.place) s (length rest - length c.in-Some-behind_zero.behind.now)) same
    (looks_key x (steps_of c.args.barrier.now.place) rest c.in-Some.text.now c.in-Some-behind_zero.behind.now c.in-Some.tag.now split c.in-Some-behind_zero.ensures.found
    c.if-tag-eq-REGULAR_EXPRESSION.false none)
