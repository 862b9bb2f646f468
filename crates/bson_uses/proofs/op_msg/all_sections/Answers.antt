use Rattle.std.proofs.Common.{rules, ◌≡◌, ◌++◌, ◌∷◌, [], ℕ, List, refl, subst}
use Rattle.bson_uses.specs.Messages.{IsSection, BeginWith}
use Rattle.bson_uses.specs.declared.op_msg.Section.{Section}
use Rattle.bson_uses.proofs.op_msg.all_sections.Goals as goal

one_more : (xs : List Section) (x : Section) (s : List ℕ) (kind : ℕ) (t next : List ℕ) → BeginWith xs s (kind ∷ t) → IsSection kind t x next → BeginWith (xs ++ x ∷ []) s next
one_more [] x s kind t next e is = (kind, t, next, e, is, refl)
one_more (y ∷ ys) x s kind t next h is = (h.0, h.1, h.2, h.3, h.4, one_more ys x h.2 kind t next h.5 is)

pub loop-kind-preserved : goal.loop-kind-preserved
loop-kind-preserved c =
    let pushed : c.push.new.self.items ≡ c.loop-kind.all.items ++ c.in_ok-section.section ∷ [] = search rules in
    let before = subst (BeginWith c.loop-kind.all.items c.args.rest.now) c.in-Some.ensures.cases.0 c.loop-kind.invariant in
    rw pushed (one_more c.loop-kind.all.items c.in_ok-section.section c.args.rest.now c.in-Some.kind.now c.in-Some.behind.now c.in_ok-section.next.now before c.in_ok-section.ensures.section)
