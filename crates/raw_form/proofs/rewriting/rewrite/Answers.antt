use Rattle.std.proofs.Common.{rules, [], arith, refl}
use Rattle.raw_form.proofs.canonical.Common.{begun_at, bytes_of, writing_begins}
use Rattle.raw_view.specs.declared.level.Holder.TheVariants as holder
use Rattle.raw_form.proofs.rewritten.Members.{known_to_first}
use Rattle.raw_form.proofs.rewriting.Writing.{IsBegun, IsMember, header_put, held_tree, inside_fits, of_tree, put_fits, refused, rewriting_done, rewriting_ends, rewriting_inside, rewriting_put, room, stands}
use Rattle.raw_form.proofs.rewriting.rewrite.Goals.{In-Some}
use Rattle.raw_form.proofs.rewriting.rewrite.Goals as goal

-- the next member
next_of : (c : In-Some) → IsMember (bytes_of c.args.document) c.levels.waiting.items c.levels.out.items c.next.new.self c.in-Some.member
next_of c =
    let is = c.levels.invariant in
    record { level = c.levels.level; is = is; later = c.next.ensures.later; next = c.in-Some.ensures.next is.here.left is.begun.left }

pub levels-init : goal.levels-init
levels-init c =
    let t = c.requires.read.0 in
    let made = held_tree holder.Document (bytes_of c.args.document) t c.requires.read.1 in
    let left = c.in_ok-level.ensures.left t c.requires.read.1 in
    let writing = writing_begins t c.put_opening.new.out.items made.0 (rw (made.1, c.in_ok-put_opening.ensures.items, c.in_ok-out.ensures.items) refl) in
    let begun : IsBegun c.in_ok-level.level (begun_at t 0) = record { start_is = c.in_ok-level.ensures.start; code = left.0; left = left.1 } in
    record { tree = t; read = c.requires.read.1; outer = []; here = begun_at t 0; waits = rw c.new-waiting.ensures.items refl; begun = begun; writing = writing }

pub next-requires : goal.next-requires
next-requires c = (c.levels.invariant.here.left, c.levels.invariant.begun.left)

pub put_end-requires : goal.put_end-requires
put_end-requires c = omega (arith, header_put c.levels.invariant c.next.ensures.later, c.levels.out.ok.0)

pub returns-in_err-put_end-clause-err : goal.returns-in_err-put_end-clause-err
returns-in_err-put_end-clause-err c = search (rules, refused c.levels.invariant, room c.levels.invariant)

pub returns-in_default-pop-clause-form : goal.returns-in_default-pop-clause-form
returns-in_default-pop-clause-form c =
    search (rules, rewriting_done c.levels.invariant c.next.ensures.later (c.in_default.ensures.next c.levels.invariant.here.left c.levels.invariant.begun.left))

pub levels-preserved-in_default : goal.levels-preserved-in_default
levels-preserved-in_default c =
    search (rules, rewriting_ends c.levels.invariant c.next.ensures.later (c.in_default.ensures.next c.levels.invariant.here.left c.levels.invariant.begun.left))

pub put_member-requires : goal.put_member-requires
put_member-requires c =
    let member = next_of (goal.at.put_member-requires c).In-Some in
    (member.next.0, of_tree member)

pub returns-in_err-held-clause-err : goal.returns-in_err-held-clause-err
returns-in_err-held-clause-err c =
    let member = next_of (goal.at.returns-in_err-held-clause-err c).In-Some in
    refused member.is c.from_residual-in_err-held.result _ _ c.from_residual-in_err-held.ensures.1 (c.in_err-held.ensures.err member.next.0 (of_tree member))
    (omega (arith, put_fits member, c.levels.out.ok.0))

pub levels-preserved-in_default-2 : goal.levels-preserved-in_default-2
levels-preserved-in_default-2 c =
    let member = next_of (goal.at.levels-preserved-in_default-2 c).In-Some in
    rewriting_put member c.in_default-2.not-Some _ (c.in_ok-held.ensures.put member.next.0 (of_tree member))

pub returns-in_err-put_opening-2-clause-err : goal.returns-in_err-put_opening-2-clause-err
returns-in_err-put_opening-2-clause-err c =
    let member = next_of (goal.at.returns-in_err-put_opening-2-clause-err c).In-Some in
    let (means, head_is) = rw c.in-Some-2.is at c.in_ok-held.ensures.put member.next.0 (of_tree member) in
    search (rules, refused member.is, inside_fits member c.in-Some-2.held means head_is)

pub levels-preserved : goal.levels-preserved
levels-preserved c =
    let member = next_of (goal.at.levels-preserved c).In-Some in
    let (means, head_is) = rw c.in-Some-2.is at c.in_ok-held.ensures.put member.next.0 (of_tree member) in
    search (rules, rewriting_inside member c.in-Some-2.held means head_is, c.in_ok-inner.ensures.left member.next.0, stands member c.in-Some-2.held means head_is)

pub new-requires-in-levels-clause-known : goal.new-requires-in-levels-clause-known
new-requires-in-levels-clause-known c = known_to_first _ _ c.in-Some-2.held.document.envelope.enough refl refl
