use Rattle.std.proofs.Common.{◌≡◌, ◌+◌, ◌-◌, ◌<◌, ◌≤◌, ◌∙◌, ◌&&◌, add_assoc, arith, ap, length, refl, subst, sym, not}
use Rattle.dump_io.specs.input.Reading.{ahead_of}
use Rattle.raw_resync.specs.declared.search.Places.{Places}
use Rattle.dump_io.proofs.lines.Cases.{if_err_reading}
use Rattle.dump_io.proofs.input.Skipping.{IsSearched, goes_ahead, not_true, passes_more, searched_none, searched_on, searched_to, seeks_ahead}
use Rattle.dump_io.proofs.input.resync.pass_over.Goals as goal
use Rattle.dump_io.proofs.input.resync.pass_over.Goals.{then-are_all-2, else-are_all-2}

pub loop-init : goal.loop-init
loop-init g c = searched_none (g.R.Read.remaining c.args.reader.now) c.args.window.now c.args.work.now c.requires.0 c.requires.1 c.requires.2

pub pass-requires : goal.pass-requires
pass-requires g c =
    let y = c.loop.window in
    let q : Places = record { from = c.loop.from; until = 18446744073709551615 } in
    let seeks = seeks_ahead y
    c.part_of.ensures.limits c.part_of.ensures.bytes c.part_of.ensures.last c.part_of.ensures.at c.in-Found.is
    c.in_ok-place.ensures.sought in
    (c.loop.invariant.window, seeks.here)

pub returns-then-are_all-clause-skips : goal.returns-then-are_all-clause-skips
returns-then-are_all-clause-skips g c =
    let y = c.loop.window in
    let inv = c.loop.invariant in
    let q : Places = record { from = c.loop.from; until = 18446744073709551615 } in
    let seeks = seeks_ahead y
    c.part_of.ensures.limits c.part_of.ensures.bytes c.part_of.ensures.last c.part_of.ensures.at c.in-Found.is
    c.in_ok-place.ensures.sought in
    let passed = c.in_ok-pass-in-Found.ensures.passed in
    let at : c.pass.new.self.offset ≡ y.offset + c.in-Found.place = passed.2 in
    let count : c.offset.result - c.offset-start.result ≡ inv.n + c.in-Found.place = omega (arith, c.offset.ensures, c.offset-start.ensures, at, inv.offset) in
    searched_to inv q refl
    seeks c.seek.ensures.work
    passed.0 passed.1 at count (sym (ap (λ b. b && c.in-Found.all) c.if-are_all.true))

pub returns-else-are_all-clause-skips : goal.returns-else-are_all-clause-skips
returns-else-are_all-clause-skips g c =
    let y = c.loop.window in
    let inv = c.loop.invariant in
    let q : Places = record { from = c.loop.from; until = 18446744073709551615 } in
    let seeks = seeks_ahead y
    c.part_of.ensures.limits c.part_of.ensures.bytes c.part_of.ensures.last c.part_of.ensures.at c.in-Found.is
    c.in_ok-place.ensures.sought in
    let passed = c.in_ok-pass-in-Found.ensures.passed in
    let at : c.pass.new.self.offset ≡ y.offset + c.in-Found.place = passed.2 in
    let count : c.offset.result - c.offset-start.result ≡ inv.n + c.in-Found.place = omega (arith, c.offset.ensures, c.offset-start.ensures, at, inv.offset) in
    searched_to inv q refl
    seeks c.seek.ensures.work
    passed.0 passed.1 at count (c.if-are_all.false ∙ sym (ap (λ b. b && c.in-Found.all) c.if-are_all.false))

pub pass-requires-in-Wants : goal.pass-requires-in-Wants
pass-requires-in-Wants g c =
    let q : Places = record { from = c.loop.from; until = 18446744073709551615 } in
    let seeks = seeks_ahead c.loop.window
    c.part_of.ensures.limits c.part_of.ensures.bytes c.part_of.ensures.last c.part_of.ensures.at
    c.in-Wants.is c.in_ok-place.ensures.sought in
    let within : c.in-Wants.place ≤ length (ahead_of c.loop.window) = seeks.here.0 in
    (c.loop.invariant.window, omega (arith, within))

pub overflow_sub-count : goal.overflow_sub-count
overflow_sub-count g c =
    let q : Places = record { from = c.loop.from; until = 18446744073709551615 } in
    let seeks = seeks_ahead c.loop.window
    c.part_of.ensures.limits c.part_of.ensures.bytes c.part_of.ensures.last c.part_of.ensures.at
    c.in-Wants.is c.in_ok-place.ensures.sought in
    let within : c.in-Wants.place ≤ length (ahead_of c.loop.window) = seeks.here.0 in
    let more : length (ahead_of c.loop.window) < c.in-Wants.count = seeks.here.1.1 in
    omega (arith, within, more)

pub look-requires : goal.look-requires
look-requires g c = c.in_ok-pass-in-Wants.ensures.passed.0

pub returns-in_err-is_last-in-Wants-clause-fails : goal.returns-in_err-is_last-in-Wants-clause-fails
returns-in_err-is_last-in-Wants-clause-fails g c =
    let r = g.R.Read.remaining in
    let y = c.loop.window in
    let inv = c.loop.invariant in
    let q : Places = record { from = c.loop.from; until = 18446744073709551615 } in
    let seeks = seeks_ahead y
    c.part_of.ensures.limits c.part_of.ensures.bytes c.part_of.ensures.last c.part_of.ensures.at
    c.in-Wants.is c.in_ok-place.ensures.sought in
    let gone = c.in-Wants.place - c.min-from.result in
    let within : c.in-Wants.place ≤ length (ahead_of y) = seeks.here.0 in
    let one = passes_more (r c.args.reader.now) (r c.loop.reader) (ahead_of c.args.window.now) (ahead_of y) (ahead_of c.pass-in-Wants.new.self) inv.n gone inv.passes
    (omega (arith, within)) c.in_ok-pass-in-Wants.ensures.passed.1 in
    let at : c.pass-in-Wants.new.self.offset ≡ c.args.window.now.offset + (inv.n + gone) =
    c.in_ok-pass-in-Wants.ensures.passed.2 ∙ ap (λ m. m + gone) inv.offset ∙ add_assoc c.args.window.now.offset inv.n gone in
    if_err_reading c.from_residual-in_err-is_last-in-Wants.result _
    (goes_ahead (r c.args.reader.now) (r c.loop.reader) (r c.look.new.reader) c.args.window.now c.pass-in-Wants.new.self c.look.new.self (inv.n + gone) one at
    c.in_err-is_last-in-Wants.ensures.fails)

pub unreachable-requires : goal.unreachable-requires
unreachable-requires g c =
    let q : Places = record { from = c.loop.from; until = 18446744073709551615 } in
    let seeks = seeks_ahead c.loop.window
    c.part_of.ensures.limits c.part_of.ensures.bytes c.part_of.ensures.last c.part_of.ensures.at
    c.in-Nowhere.is c.in_ok-place.ensures.sought in
    let long : 18446744073709551615 ≤ length (ahead_of c.loop.window) = seeks.here in
    let same : length c.part_of.result.bytes.now ≡ length (ahead_of c.loop.window) = ap length c.part_of.ensures.bytes in
    omega (arith, long, same)

pub loop-preserved : goal.loop-preserved
loop-preserved g c =
    let r = g.R.Read.remaining in
    let y = c.loop.window in
    let inv = c.loop.invariant in
    let q : Places = record { from = c.loop.from; until = 18446744073709551615 } in
    let seeks = seeks_ahead y
    c.part_of.ensures.limits c.part_of.ensures.bytes c.part_of.ensures.last c.part_of.ensures.at
    c.in-Wants.is c.in_ok-place.ensures.sought in
    let passed = c.in_ok-pass-in-Wants.ensures.passed in
    let there = c.in_ok-is_last-in-Wants.field-0 in
    let on = searched_on inv q refl
    seeks c.seek.ensures.work c.min-from.ensures
    passed.1 passed.2 c.in_ok-is_last-in-Wants.ensures.looks (not there) (not_true there) in
    elim c.if-are_all-2.branch [
      | then-are_all-2 w ↦
          rw w.are_all-is
          (subst (IsSearched c.args.limits (r c.args.reader.now) (r c.look.new.reader) c.args.window.now c.look.new.self c.args.work.now c.seek.new.work c.min-from.result (not there))
          (ap (λ b. b && c.in-Wants.all) w.if-are_all-2.true) on)
      | else-are_all-2 w ↦
          rw w.are_all-is
          (subst (IsSearched c.args.limits (r c.args.reader.now) (r c.look.new.reader) c.args.window.now c.look.new.self c.args.work.now c.seek.new.work c.min-from.result (not there))
          (ap (λ b. b && c.in-Wants.all) w.if-are_all-2.false ∙ sym w.if-are_all-2.false) on)
    ]

pub returns-clause-fails : goal.returns-clause-fails
returns-clause-fails g c is =
    let inv = c.loop.invariant in
    record { window = inv.window; count = inv.n; offset = inv.offset; passes = inv.passes }
