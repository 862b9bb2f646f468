use Rattle.std.proofs.Common.{◌≡◌, [], ◌∷◌, Bool, List, arith, false, refl, rules, subst}
use Rattle.std.specs.Io.KnownBytes.{Appends}
use Rattle.dump_io.proofs.Face.{on_any}
use Rattle.dump_io.specs.lines.Fronts.{AppendsFront}
use Rattle.raw_view.specs.Document.{bytes_of}
use Rattle.dump_commands.specs.elements.Runs.{Writes, is_shown, sheet_of}
use Rattle.dump_commands.specs.elements.Showing.{length_run}
use Rattle.dump_commands.specs.elements.ShownLevels.{GoesOn, levels_after, levels_of}
use Rattle.dump_commands.proofs.elements.Steps.{showing_begins, showing_breaks, showing_ends, showing_enough, showing_fails, showing_goes, showing_written, shown_nothing}
use Rattle.dump_commands.proofs.elements.showing.show_levels.Goals as goal

pub returns-in_err-push_length-clause-front : goal.returns-in_err-push_length-clause-front
returns-in_err-push_length-clause-front g c = on_any _ _ (shown_nothing (bytes_of c.args.document) c.args.page.now (g.W.Write.contents c.args.out.now))

pub levels-init : goal.levels-init
levels-init g c =
    let first = c.args.page.now in
    let page = c.push_length.new.page in
    let put = subst (λ (x : List _). Writes first page (length_run 0 x ∷ [])) c.as_bytes.ensures.bytes c.in_ok-push_length.ensures.put in
    rw c.new-waiting.ensures.items
    (showing_begins (bytes_of c.args.document) first page (g.W.Write.contents c.args.out.now) c.requires.0 c.requires.1 put, omega arith)

pub returns-in_err-is_over-clause-front : goal.returns-in_err-is_over-clause-front
returns-in_err-is_over-clause-front g c = on_any _ _ (showing_fails c.levels.invariant.0 c.levels.waiting.items c.levels.level refl c.levels.invariant.1)

pub returns-then-not-goes_on-clause-shown : goal.returns-then-not-goes_on-clause-shown
returns-then-not-goes_on-clause-shown g c =
    let none : is_shown (sheet_of c.levels.page) c.levels.page.at ≡ false = search rules in
    showing_enough c.levels.invariant.0 c.levels.waiting.items c.levels.level refl c.levels.invariant.1 none

pub returns-then-is_over-clause-shown : goal.returns-then-is_over-clause-shown
returns-then-is_over-clause-shown g c =
    let old = levels_of c.levels.waiting.items c.levels.level in
    let next = c.step.new.page in
    let (runs, goes, put) = c.in_ok-is_over.ensures.goes in
    let over = subst (λ (o : Bool). GoesOn old (levels_after o c.step.new.waiting.items c.step.new.level) runs) c.if-is_over.true goes in
    showing_ends (showing_goes c.levels.invariant.0 next [] runs over put) refl

pub returns-in_err-put-clause-front : goal.returns-in_err-put-clause-front
returns-in_err-put-clause-front g c =
    let old = levels_of c.levels.waiting.items c.levels.level in
    let next = c.step.new.page in
    let (runs, goes, put) = c.in_ok-is_over.ensures.goes in
    let on = subst (λ (o : Bool). GoesOn old (levels_after o c.step.new.waiting.items c.step.new.level) runs) c.if-is_over.false goes in
    let is = showing_goes c.levels.invariant.0 next (levels_of c.step.new.waiting.items c.step.new.level) runs on put in
    let from = g.W.Write.contents c.levels.out in
    let last = g.W.Write.contents c.put.new.writer in
    let front = subst (λ (x : List _). AppendsFront from last x) c.deref.ensures.value c.in_err-put.ensures.front in
    on_any _ _ (showing_breaks is c.step.new.waiting.items c.step.new.level refl c.in_ok-is_over.ensures.few last front)

pub levels-preserved : goal.levels-preserved
levels-preserved g c =
    let old = levels_of c.levels.waiting.items c.levels.level in
    let next = c.step.new.page in
    let (runs, goes, put) = c.in_ok-is_over.ensures.goes in
    let on = subst (λ (o : Bool). GoesOn old (levels_after o c.step.new.waiting.items c.step.new.level) runs) c.if-is_over.false goes in
    let is = showing_goes c.levels.invariant.0 next (levels_of c.step.new.waiting.items c.step.new.level) runs on put in
    let from = g.W.Write.contents c.levels.out in
    let last = g.W.Write.contents c.put.new.writer in
    let written = subst (λ (x : List _). Appends from last x) c.deref.ensures.value c.in_ok-put.ensures.written in
    (showing_written is _ last written c.clear.ensures.items refl refl, c.in_ok-is_over.ensures.few)
