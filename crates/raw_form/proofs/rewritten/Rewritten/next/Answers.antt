use Rattle.std.proofs.Common.{List, ℕ, map, refl, arith, ap, ◌∙◌, ◌+◌}
use Rattle.raw_form.proofs.canonical.Common.{Tree, entries, numbered, trees}
use Rattle.raw_form.proofs.rewritten.Members.{one_known, pair_taken}
use Rattle.raw_form.proofs.rewritten.Rewritten.next.Goals as goal

pub returns-in_ok-element-in-Numbers-clause-next : goal.returns-in_ok-element-in-Numbers-clause-next
returns-in_ok-element-in-Numbers-clause-next c ms left =
    let n = c.in-Numbers.number in
    let here = rw c.in-Numbers.is at left in
    let next = pair_taken c.args.self.now.elements c.next_element.new.elements here.1 c.in_ok-element-in-Numbers.element here.2 c.in_ok-element-in-Numbers.ensures in
    let same = here.3 ∙ ap (λ (ps : List (List ℕ × Tree)). numbered n (trees (map (λ p. p.1) ps))) next.2 in
    (next.0, numbered (n + 1) (trees (map (λ p. p.1) next.1)), same, next.3, (omega (arith, here.0, next.5), next.1, next.4, refl), (λ told. cc))

pub returns-in_ok-element-in-Distinct-clause-next : goal.returns-in_ok-element-in-Distinct-clause-next
returns-in_ok-element-in-Distinct-clause-next c ms left =
    let old = c.args.self.now.elements in
    let new = c.next_element-in-Distinct.new.elements in
    let e = c.in_ok-element-in-Distinct.element in
    let here = rw c.in-Distinct.is at left in
    let next = pair_taken old new here.0 e here.1 c.in_ok-element-in-Distinct.ensures in
    let own = one_known c.in-Distinct.known _ old new e c.saturating_sub.ensures here.3 c.in_ok-element-in-Distinct.ensures in
    let same = here.2 ∙ ap entries next.2 in
    (next.0, entries next.1, same, next.3, (next.1, next.4, refl, own.1), own.0)

pub returns-in_err-element-in-Repeated-clause-next : goal.returns-in_err-element-in-Repeated-clause-next
returns-in_err-element-in-Repeated-clause-next c ms left =
    rw c.from_residual-in_err-element-in-Repeated.ensures
    (c.in_err-element-in-Repeated.ensures ms (rw (c.deref_mut.ensures.value) (rw c.in-Repeated.is at left)))

pub returns-in_ok-element-in-Repeated-clause-next : goal.returns-in_ok-element-in-Repeated-clause-next
returns-in_ok-element-in-Repeated-clause-next c ms left =
    c.in_ok-element-in-Repeated.ensures ms (rw (c.deref_mut.ensures.value) (rw c.in-Repeated.is at left))

pub next-requires : goal.next-requires
next-requires c = (c.requires.0, rw (c.deref_mut.ensures.value) (rw c.in-Repeated.is at c.requires.1))
