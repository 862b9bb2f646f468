use Rattle.std.proofs.Common.{◌≡◌, ◌≢◌, ◌+◌, [], ◌∷◌, ◌++◌, codes, length, refl, rules, subst, ℕ}
use Rattle.raw_view.specs.Document.{bytes_of}
use Rattle.dump_commands.specs.declared.elements.level.Next.{Next}
use Rattle.dump_commands.specs.elements.Runs.{fault_run}
use Rattle.dump_commands.specs.elements.Showing.{StepsRuns, left_in, length_run}
use Rattle.dump_commands.proofs.elements.Steps.{goes_deep, goes_element, goes_end, goes_inside, goes_outward, writes_as, writes_more}
use Rattle.dump_commands.proofs.elements.showing.step.Goals as goal

pub returns-in_default-clause-goes : goal.returns-in_default-clause-goes
returns-in_default-clause-goes c =
    let ws = c.args.waiting.now.items in
    let l = c.args.level.now in
    let new = c.push_next.new.level in
    let len : c.len-depth.result ≡ length ws = search rules in
    let (runs, steps, put) = c.in_ok-push_next.ensures.put in
    let ends = subst (λ (n : Next). StepsRuns (length ws) (left_in l) (left_in new) runs n) c.in-End.is
    (subst (λ (d : ℕ). StepsRuns d (left_in l) (left_in new) runs c.in_ok-push_next.field-0) len steps) in
    let none : ws ≡ [] = search rules in
    (runs, goes_end ws l c.requires runs none ends, put)

pub returns-in-Some-clause-goes : goal.returns-in-Some-clause-goes
returns-in-Some-clause-goes c =
    let ws = c.args.waiting.now.items in
    let l = c.args.level.now in
    let new = c.push_next.new.level in
    let len : c.len-depth.result ≡ length ws = search rules in
    let (runs, steps, put) = c.in_ok-push_next.ensures.put in
    let ends = subst (λ (n : Next). StepsRuns (length ws) (left_in l) (left_in new) runs n) c.in-End.is
    (subst (λ (d : ℕ). StepsRuns d (left_in l) (left_in new) runs c.in_ok-push_next.field-0) len steps) in
    (runs, goes_outward ws l c.requires c.pop.new.self.items c.in-Some.outer runs c.in-Some.ensures.items ends, put)

pub returns-in-Element-clause-goes : goal.returns-in-Element-clause-goes
returns-in-Element-clause-goes c =
    let ws = c.args.waiting.now.items in
    let l = c.args.level.now in
    let new = c.push_next.new.level in
    let len : c.len-depth.result ≡ length ws = search rules in
    let (runs, steps, put) = c.in_ok-push_next.ensures.put in
    let (f, at, tells) = subst (λ (n : Next). StepsRuns (length ws) (left_in l) (left_in new) runs n) c.in-Element.is
    (subst (λ (d : ℕ). StepsRuns d (left_in l) (left_in new) runs c.in_ok-push_next.field-0) len steps) in
    (runs, goes_element ws l c.requires new f at runs tells, put)

pub returns-in_ok-push_worded-in-Inside-clause-goes : goal.returns-in_ok-push_worded-in-Inside-clause-goes
returns-in_ok-push_worded-in-Inside-clause-goes c =
    let ws = c.args.waiting.now.items in
    let l = c.args.level.now in
    let new = c.push_next.new.level in
    let inner = c.in-Inside.inner in
    let len : c.len-depth.result ≡ length ws = search rules in
    let most : length ws + 1 ≡ 500 = search rules in
    let (runs, steps, put) = c.in_ok-push_next.ensures.put in
    let (f, at, tells) = subst (λ (n : Next). StepsRuns (length ws) (left_in l) (left_in new) runs n) c.in-Inside.is
    (subst (λ (d : ℕ). StepsRuns d (left_in l) (left_in new) runs c.in_ok-push_next.field-0) len steps) in
    let deep = fault_run (length ws + 1) (bytes_of inner.document) (codes "over 500 levels") in
    let words = writes_as _ _ _ (deep ∷ []) (λ i. fault_run (len i + 1) (c.as_bytes.ensures.bytes i) (codes "over 500 levels") ∷ []) c.in_ok-push_worded-in-Inside.ensures.put in
    (runs ++ deep ∷ [], goes_deep ws l c.requires new f at inner runs tells deep most refl, writes_more _ _ _ _ _ put words)

pub returns-in_ok-enter-in-Inside-clause-goes : goal.returns-in_ok-enter-in-Inside-clause-goes
returns-in_ok-enter-in-Inside-clause-goes c =
    let ws = c.args.waiting.now.items in
    let l = c.args.level.now in
    let new = c.push_next.new.level in
    let inner = c.in-Inside.inner in
    let len : c.len-depth.result ≡ length ws = search rules in
    let fewer : length ws + 1 ≢ 500 = search rules in
    let (runs, steps, put) = c.in_ok-push_next.ensures.put in
    let (f, at, tells) = subst (λ (n : Next). StepsRuns (length ws) (left_in l) (left_in new) runs n) c.in-Inside.is
    (subst (λ (d : ℕ). StepsRuns d (left_in l) (left_in new) runs c.in_ok-push_next.field-0) len steps) in
    let head = length_run (length ws + 1) (bytes_of inner.document) in
    let written = writes_as _ _ _ (head ∷ []) (λ i. length_run (len i + 1) (c.as_bytes-else-depth-eq-LEVELS.ensures.bytes i) ∷ []) c.in_ok-push_length-in-Inside.ensures.put in
    rw c.in_ok-enter-in-Inside.ensures.waits
    (runs ++ head ∷ [], goes_inside ws l c.requires new f at inner runs tells c.enter.new.level fewer c.in_ok-enter-in-Inside.ensures.inside, writes_more _ _ _ _ _ put written)
