use Rattle.std.proofs.Common.{◌≡◌, ◌+◌, ◌-◌, ◌∙◌, ◌&&◌, true, false, ap, arith, drop, length, length-drop, not, refl, subst, sym}
use Rattle.dump_io.specs.input.Reading.{ahead_of}
use Rattle.dump_io.proofs.input.Deciding.{IsSought, if_err, seeks_behind, sees_found, sees_none, sought_none, sought_on, stays_on}
use Rattle.dump_io.proofs.input.Skipping.{not_true}
use Rattle.dump_io.proofs.input.resync.see.Goals as goal
use Rattle.dump_io.proofs.input.resync.see.Goals.{then-are_all-3, else-are_all-3}

pub loop-init : goal.loop-init
loop-init g c = sought_none (g.R.Read.remaining c.args.reader.now) c.args.window.now c.args.work.now c.args.search c.requires.0 c.requires.1 c.requires.2 c.requires.3

pub ahead-requires : goal.ahead-requires
ahead-requires g c = c.loop.invariant.searches.stays.window

pub split_at-requires : goal.split_at-requires
split_at-requires g c =
    let same : length c.ahead.result.now ≡ length (ahead_of c.loop.window) = ap length c.ahead.ensures in
    omega (arith, same, c.loop.invariant.within)

pub seek-requires : goal.seek-requires
seek-requires g c =
    let inv = c.loop.invariant in
    let bytes : c.split_at.result.1.now ≡ drop c.args.search.base (ahead_of c.loop.window) = c.split_at.ensures.back ∙ ap (drop c.args.search.base) c.ahead.ensures in
    let size : length c.split_at.result.1.now ≡ length (ahead_of c.loop.window) - c.args.search.base = ap length bytes ∙ length-drop c.args.search.base (ahead_of c.loop.window) in
    (inv.searches.work, omega (arith, size, inv.within), inv.high)

pub returns-in_err-all-clause-fails : goal.returns-in_err-all-clause-fails
returns-in_err-all-clause-fails g c = if_err _ _ c.loop.invariant.searches.stays

pub returns-then-are_all-clause-sees : goal.returns-then-are_all-clause-sees
returns-then-are_all-clause-sees g c =
    let y = c.loop.window in
    let base = c.args.search.base in
    let inv = c.loop.invariant in
    let bytes : c.split_at.result.1.now ≡ drop base (ahead_of y) = c.split_at.ensures.back ∙ ap (drop base) c.ahead.ensures in
    let at : c.in_ok-at.at ≡ y.offset + base = c.in_ok-at.ensures ∙ ap (λ n. n + base) (sym inv.searches.stays.offset) in
    let seeks = seeks_behind y base bytes at c.in-Found.is c.in_ok-all.ensures.sought in
    sees_found inv seeks c.seek.ensures.work c.in-Found.place c.in-Found.all (record { goes_on = true; all = c.in-Found.all }) refl refl (sym (ap (λ b. b && c.in-Found.all) c.if-are_all.true))

pub returns-else-are_all-clause-sees : goal.returns-else-are_all-clause-sees
returns-else-are_all-clause-sees g c =
    let y = c.loop.window in
    let base = c.args.search.base in
    let inv = c.loop.invariant in
    let bytes : c.split_at.result.1.now ≡ drop base (ahead_of y) = c.split_at.ensures.back ∙ ap (drop base) c.ahead.ensures in
    let at : c.in_ok-at.at ≡ y.offset + base = c.in_ok-at.ensures ∙ ap (λ n. n + base) (sym inv.searches.stays.offset) in
    let seeks = seeks_behind y base bytes at c.in-Found.is c.in_ok-all.ensures.sought in
    sees_found inv seeks c.seek.ensures.work c.in-Found.place c.in-Found.all (record { goes_on = true; all = c.loop.are_all })
    refl refl (c.if-are_all.false ∙ sym (ap (λ b. b && c.in-Found.all) c.if-are_all.false))

pub returns-then-are_all-2-clause-sees : goal.returns-then-are_all-2-clause-sees
returns-then-are_all-2-clause-sees g c =
    let y = c.loop.window in
    let base = c.args.search.base in
    let inv = c.loop.invariant in
    let bytes : c.split_at.result.1.now ≡ drop base (ahead_of y) = c.split_at.ensures.back ∙ ap (drop base) c.ahead.ensures in
    let at : c.in_ok-at.at ≡ y.offset + base = c.in_ok-at.ensures ∙ ap (λ n. n + base) (sym inv.searches.stays.offset) in
    let seeks = seeks_behind y base bytes at c.in-Nowhere.is c.in_ok-all.ensures.sought in
    sees_none inv seeks c.seek.ensures.work c.in-Nowhere.all (record { goes_on = false; all = c.in-Nowhere.all }) refl refl (sym (ap (λ b. b && c.in-Nowhere.all) c.if-are_all-2.true))

pub returns-else-are_all-2-clause-sees : goal.returns-else-are_all-2-clause-sees
returns-else-are_all-2-clause-sees g c =
    let y = c.loop.window in
    let base = c.args.search.base in
    let inv = c.loop.invariant in
    let bytes : c.split_at.result.1.now ≡ drop base (ahead_of y) = c.split_at.ensures.back ∙ ap (drop base) c.ahead.ensures in
    let at : c.in_ok-at.at ≡ y.offset + base = c.in_ok-at.ensures ∙ ap (λ n. n + base) (sym inv.searches.stays.offset) in
    let seeks = seeks_behind y base bytes at c.in-Nowhere.is c.in_ok-all.ensures.sought in
    sees_none inv seeks c.seek.ensures.work c.in-Nowhere.all (record { goes_on = false; all = c.loop.are_all })
    refl refl (c.if-are_all-2.false ∙ sym (ap (λ b. b && c.in-Nowhere.all) c.if-are_all-2.false))

pub look-requires : goal.look-requires
look-requires g c = c.loop.invariant.searches.stays.window

pub returns-in_err-is_last-in-Wants-clause-fails : goal.returns-in_err-is_last-in-Wants-clause-fails
returns-in_err-is_last-in-Wants-clause-fails g c =
    let r = g.R.Read.remaining in
    if_err _ _ (stays_on (r c.args.reader.now) (r c.loop.reader) (r c.look.new.reader) c.args.window.now c.loop.window c.look.new.self c.loop.invariant.searches.stays
    c.in_err-is_last-in-Wants.ensures.fails)

pub loop-preserved : goal.loop-preserved
loop-preserved g c =
    let r = g.R.Read.remaining in
    let y = c.loop.window in
    let base = c.args.search.base in
    let inv = c.loop.invariant in
    let bytes : c.split_at.result.1.now ≡ drop base (ahead_of y) = c.split_at.ensures.back ∙ ap (drop base) c.ahead.ensures in
    let at : c.in_ok-at.at ≡ y.offset + base = c.in_ok-at.ensures ∙ ap (λ n. n + base) (sym inv.searches.stays.offset) in
    let seeks = seeks_behind y base bytes at c.in-Wants.is c.in_ok-all.ensures.sought in
    let there = c.in_ok-is_last-in-Wants.field-0 in
    let on = sought_on inv seeks c.seek.ensures.work c.look.new.self c.in-Wants.place c.in-Wants.count c.in-Wants.all (not there) refl
    c.in_ok-is_last-in-Wants.ensures.looks (not_true there) in
    elim c.if-are_all-3.branch [
      | then-are_all-3 w ↦
          rw w.are_all-is
          (subst (IsSought c.args.limits (r c.args.reader.now) (r c.look.new.reader) c.args.window.now c.look.new.self c.args.work.now c.seek.new.work c.args.search c.in-Wants.place (not there))
          (ap (λ b. b && c.in-Wants.all) w.if-are_all-3.true) on)
      | else-are_all-3 w ↦
          rw w.are_all-is
          (subst (IsSought c.args.limits (r c.args.reader.now) (r c.look.new.reader) c.args.window.now c.look.new.self c.args.work.now c.seek.new.work c.args.search c.in-Wants.place (not there))
          (ap (λ b. b && c.in-Wants.all) w.if-are_all-3.false ∙ sym w.if-are_all-3.false) on)
    ]

pub returns-clause-fails : goal.returns-clause-fails
returns-clause-fails g c = c.loop.invariant.searches.stays
