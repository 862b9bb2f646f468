use Rattle.std.proofs.Common.{rules, ◌≡◌, ◌∙◌, ◌∷◌, ◌++◌, [], ℕ, List, Some, ap, arith, refl}
use Rattle.std.specs.Option.{option_copied}
use Rattle.raw_form.proofs.canonical.Common.{bytes_of, frame_of, held_opening}
use Rattle.raw_form.proofs.replacing.Chain.{Passes}
use Rattle.raw_form.proofs.replacing.Levels.{end_exceeds, put_exceeds, put_none, replaces_none, replacing_begins, replacing_deep, replacing_done, replacing_ends, replacing_inside, replacing_put, suc_of}
use Rattle.raw_form.specs.declared.replaced.Open.{Open}
use Rattle.raw_view.specs.declared.level.Holder.TheVariants as holder
use Rattle.raw_form.proofs.replacing.replaced_to.Goals.{In_default, In-Ok}
use Rattle.raw_form.proofs.replacing.replaced_to.Goals as goal

pub levels-init : goal.levels-init
levels-init c =
    let (n, is) = suc_of c.args.depth c.if-depth-eq0.false in
    let out_is = c.in_ok-put_opening.ensures.items ∙ ap (λ (x : List ℕ). x ++ held_opening holder.Document) c.in_ok-out.ensures.items in
    rw (is, c.new-waiting.ensures.items) (replacing_begins n (bytes_of c.args.document) _ _ c.new.ensures refl c.none.ensures out_is)

-- the level is over
final_of : (c : In_default) → c.levels.invariant.begun.0.0 ≡ 0 ∷ []
final_of c = (rw c.levels.invariant.begun.0.1 at c.in_default.ensures.steps).0

pub returns-in_err-put_end-clause-err : goal.returns-in_err-put_end-clause-err
returns-in_err-put_end-clause-err c =
    let is = c.levels.invariant in
    end_exceeds is is.begun.0.1 (final_of (goal.at.returns-in_err-put_end-clause-err c).In_default) c.from_residual-in_err-put_end.result c.in_err-put_end.field-0.0
    c.from_residual-in_err-put_end.ensures.1 _ (omega (arith, c.levels.out.ok.0)) c.in_err-put_end.ensures.err

pub returns-in_default-pop-clause-made : goal.returns-in_default-pop-clause-made
returns-in_default-pop-clause-made c =
    let is = c.levels.invariant in
    let none : c.levels.waiting.items ≡ [] = search rules in
    replacing_done is is.begun.0.1 (final_of (goal.at.returns-in_default-pop-clause-made c).In_default) none _ c.in_ok-put_end.ensures.items

pub levels-preserved-in_default : goal.levels-preserved-in_default
levels-preserved-in_default c =
    let is = c.levels.invariant in
    search (rules, replacing_ends is is.begun.0.1 (final_of (goal.at.levels-preserved-in_default c).In_default))

pub returns-in_default-next-clause-made : goal.returns-in_default-next-clause-made
returns-in_default-next-clause-made c a becomes =
    let is = c.levels.invariant in
    let stops = rw (c.in_default-next.is, is.begun.0.1) at c.in-Some.ensures.steps in
    replaces_none is is.begun.0.0 c.in_default-next.field-0 (option_copied c.in_default-next.field-0.key) is.begun.0.1 stops.0 a becomes

-- the level after the element
abbrev next_level : In-Ok → Open
next_level c = record { elements = c.next.new.self; start = c.levels.level.start; code_len = c.levels.level.code_len }

-- past the element at the front
step_of : (c : In-Ok) → (r : List ℕ) × Passes c.levels.level (next_level c) c.levels.invariant.begun.0.0 (frame_of c.in-Ok.element) r
step_of c =
    let elements = c.levels.invariant.begun.0.1 in
    let (r, at, new_is) = rw (c.in-Ok.is, elements) at c.in-Some.ensures.steps in
    (r, record { at = at; old_is = elements; new_is = new_is; start_is = refl; code_is = refl })

pub returns-in_err-put_kept-clause-err : goal.returns-in_err-put_kept-clause-err
returns-in_err-put_kept-clause-err c =
    let is = c.levels.invariant in
    let (r, step) = step_of (goal.at.returns-in_err-put_kept-clause-err c).In-Ok in
    put_exceeds is step c.from_residual-in_err-put_kept.result c.in_err-put_kept.field-0.0
    c.from_residual-in_err-put_kept.ensures.1 _ (omega (arith, c.levels.out.ok.0)) c.in_err-put_kept.ensures.err

pub levels-smaller-in-Whole : goal.levels-smaller-in-Whole
levels-smaller-in-Whole c = let grows = rw c.in-Whole.is at c.in_ok-put_kept.ensures.grows in omega (arith, grows.0, grows.1)

pub levels-preserved-in-Whole : goal.levels-preserved-in-Whole
levels-preserved-in-Whole c =
    let is = c.levels.invariant in
    let (r, step) = step_of (goal.at.levels-preserved-in-Whole c).In-Ok in
    let (l, means, more_is) = rw c.in-Whole.is at c.in_ok-put_kept.ensures.put in
    replacing_put is step _ l means more_is

pub returns-in-Fault-clause-made : goal.returns-in-Fault-clause-made
returns-in-Fault-clause-made c a becomes =
    let is = c.levels.invariant in
    let (r, step) = step_of (goal.at.returns-in-Fault-clause-made c).In-Ok in
    put_none is step (rw c.in-Fault.is at c.in_ok-put_kept.ensures.put) a becomes

pub returns-then-len-depth-clause-made : goal.returns-then-len-depth-clause-made
returns-then-len-depth-clause-made c a becomes =
    let is = c.levels.invariant in
    let (r, step) = step_of (goal.at.returns-then-len-depth-clause-made c).In-Ok in
    let (h, d, means, opens) = rw c.in-Inside.is at c.in_ok-put_kept.ensures.put in
    replacing_deep is step h d means (omega (arith, c.if-len-depth.true, c.len.ensures, c.levels.waiting.ok.0)) a becomes

pub levels-smaller : goal.levels-smaller
levels-smaller c = let grows = rw c.in-Inside.is at c.in_ok-put_kept.ensures.grows in omega (arith, grows.0, grows.1)

pub levels-preserved : goal.levels-preserved
levels-preserved c =
    let is = c.levels.invariant in
    let (r, step) = step_of (goal.at.levels-preserved c).In-Ok in
    let (h, d, means, opens) = rw c.in-Inside.is at c.in_ok-put_kept.ensures.put in
    search (rules, replacing_inside is step h d means c.in-Inside.inner _ opens)
