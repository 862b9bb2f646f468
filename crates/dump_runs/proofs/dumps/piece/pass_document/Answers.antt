use Rattle.std.proofs.Common.{List, refl, subst, sym, ℕ, ◌∙◌}
use Rattle.dump_io.specs.lines.Origins.{origin_of}
use Rattle.dump_io.specs.declared.input.ending.Ending.TheVariants as ending
use Rattle.dump_io.proofs.Face.{if_err_reading, on_any, stays_on}
use Rattle.dump_commands.specs.Findings.{FindsFor, IsJudged}
use Rattle.dump_runs.specs.Plays.{held}
use Rattle.dump_runs.specs.dumps.Run.{piece}
use Rattle.dump_runs.specs.declared.dumps.piece.Piece.{Piece}
use Rattle.dump_runs.proofs.dumps.Nexting.{IsOver, IsPieceAt, IsToCount, fails_on, goes_since, goes_stays, halts_given, halts_lone, halts_none, halts_over, halts_piece, judged_on, passes_gap, passes_lone, passes_piece, same_front, taken_at}
use Rattle.dump_runs.proofs.dumps.piece.pass_document.Goals as goal

pub returns-in_err-judged-clause-halts : goal.returns-in_err-judged-clause-halts
returns-in_err-judged-clause-halts g c =
    on_any _ _ (halts_none c.args.job c.args.source.now (held c.args.writers.now c.args.tally.now))

pub is_taken-requires : goal.is_taken-requires
is_taken-requires g c =
    let job = c.args.job in
    let (window, work, within, is) = c.requires in
    let (told, found, line) = c.in_ok-judged.ensures in
    (window, work, within, is, (told, subst (λ (b : List ℕ). FindsFor job.limits job.command b c.in_ok-judged.judged.finding told) c.front.ensures found))

pub returns-in_err-is_taken-clause-halts : goal.returns-in_err-is_taken-clause-halts
returns-in_err-is_taken-clause-halts g c =
    on_any _ _ (halts_none c.args.job c.args.source.now (held c.args.writers.now c.args.tally.now))

pub returns-in_err-is_taken-clause-fails : goal.returns-in_err-is_taken-clause-fails
returns-in_err-is_taken-clause-fails g c =
    if_err_reading _ _ (goes_stays c.in_err-is_taken.ensures.fails, c.is_taken.ensures.same.0, refl)

pub pass_gap-requires : goal.pass_gap-requires
pass_gap-requires g c =
    let tells = rw c.if-not-branch.true at c.in_ok-is_taken.ensures.told in
    (tells.searches.stays.window, tells.searches.work, tells.ahead.0)

pub returns-in_err-pass_gap-clause-halts : goal.returns-in_err-pass_gap-clause-halts
returns-in_err-pass_gap-clause-halts g c =
    let x = c.args.source.now in
    let y = c.is_taken.new.source in
    let tells = rw c.if-not-branch.true at c.in_ok-is_taken.ensures.told in
    let over : IsOver c.args.job x y (ending.WrongLength c.args.len) =
    record { named = c.is_taken.ensures.same.0; asked = c.in_ok-is_taken.ensures.asked c.if-not-branch.true; tells = tells } in
    on_any _ _ (halts_over over c.in_err-pass_gap.ensures.halts)

pub returns-in_err-pass_gap-clause-fails : goal.returns-in_err-pass_gap-clause-fails
returns-in_err-pass_gap-clause-fails g c =
    let tells = rw c.if-not-branch.true at c.in_ok-is_taken.ensures.told in
    fails_on c.from_residual-in_err-pass_gap.result _ _ c.from_residual-in_err-pass_gap.ensures.1
    (λ reading. let (goes, named, same) = c.in_err-pass_gap.ensures.fails reading in (goes_since tells.searches.stays goes, named ∙ c.is_taken.ensures.same.0, same))

pub returns-then-not-branch-clause-passed : goal.returns-then-not-branch-clause-passed
returns-then-not-branch-clause-passed g c =
    let x = c.args.source.now in
    let y = c.is_taken.new.source in
    let tells = rw c.if-not-branch.true at c.in_ok-is_taken.ensures.told in
    let over : IsOver c.args.job x y (ending.WrongLength c.args.len) =
    record { named = c.is_taken.ensures.same.0; asked = c.in_ok-is_taken.ensures.asked c.if-not-branch.true; tells = tells } in
    passes_gap over c.in_ok-pass_gap.ensures.passed

pub stands_alone-requires : goal.stands_alone-requires
stands_alone-requires g c =
    let tells = rw c.if-not-branch.false at c.in_ok-is_taken.ensures.told in
    (tells.searches.stays.window, tells.searches.work, tells.ahead.0)

pub returns-in_err-stands_alone-clause-halts : goal.returns-in_err-stands_alone-clause-halts
returns-in_err-stands_alone-clause-halts g c =
    on_any _ _ (halts_none c.args.job c.args.source.now (held c.args.writers.now c.args.tally.now))

pub returns-in_err-stands_alone-clause-fails : goal.returns-in_err-stands_alone-clause-fails
returns-in_err-stands_alone-clause-fails g c =
    let x = c.args.source.now in
    let y = c.is_taken.new.source in
    let z = c.stands_alone.new.source in
    let tells = rw c.if-not-branch.false at c.in_ok-is_taken.ensures.told in
    let stays = stays_on x.left y.left z.left x.window y.window z.window tells.searches.stays c.in_err-stands_alone.ensures.fails in
    if_err_reading _ _ (goes_stays stays, c.stands_alone.ensures.same ∙ c.is_taken.ensures.same.0, refl)

pub set_aside-requires : goal.set_aside-requires
set_aside-requires g c =
    let tells = rw c.if-not-branch.false at c.in_ok-is_taken.ensures.told in
    let looks = rw c.if-branch.true at c.in_ok-stands_alone.ensures.looks in
    let taken =
    taken_at {x = c.args.source.now} {y = c.is_taken.new.source} {z = c.stands_alone.new.source} c.is_taken.ensures.same.0 c.is_taken.ensures.same.1 tells c.stands_alone.ensures.same looks in
    (taken.searches.stays.window, taken.within)

pub returns-in_err-set_aside-clause-halts : goal.returns-in_err-set_aside-clause-halts
returns-in_err-set_aside-clause-halts g c =
    let job = c.args.job in
    let tells = rw c.if-not-branch.false at c.in_ok-is_taken.ensures.told in
    let looks = rw c.if-branch.true at c.in_ok-stands_alone.ensures.looks in
    let taken =
    taken_at {x = c.args.source.now} {y = c.is_taken.new.source} {z = c.stands_alone.new.source} c.is_taken.ensures.same.0 c.is_taken.ensures.same.1 tells c.stands_alone.ensures.same looks in
    let (window, work, within, is) = c.requires in
    let (told, found, line) = c.in_ok-judged.ensures in
    let finds = subst (λ (b : List ℕ). FindsFor job.limits job.command b c.in_ok-judged.judged.finding told) (c.front.ensures ∙ sym (same_front taken.searches.stays within)) found in
    on_any _ _ (halts_lone told taken finds c.in_err-set_aside.ensures.halts)

pub returns-then-branch-clause-passed : goal.returns-then-branch-clause-passed
returns-then-branch-clause-passed g c =
    let job = c.args.job in
    let tells = rw c.if-not-branch.false at c.in_ok-is_taken.ensures.told in
    let looks = rw c.if-branch.true at c.in_ok-stands_alone.ensures.looks in
    let taken =
    taken_at {x = c.args.source.now} {y = c.is_taken.new.source} {z = c.stands_alone.new.source} c.is_taken.ensures.same.0 c.is_taken.ensures.same.1 tells c.stands_alone.ensures.same looks in
    let (window, work, within, is) = c.requires in
    let (told, found, line) = c.in_ok-judged.ensures in
    let finds = subst (λ (b : List ℕ). FindsFor job.limits job.command b c.in_ok-judged.judged.finding told) (c.front.ensures ∙ sym (same_front taken.searches.stays within)) found in
    passes_lone told taken finds c.in_ok-set_aside.ensures.passed

pub front-requires-2 : goal.front-requires-2
front-requires-2 g c =
    let tells = rw c.if-not-branch.false at c.in_ok-is_taken.ensures.told in
    let looks = rw c.if-branch.false at c.in_ok-stands_alone.ensures.looks in
    let taken =
    taken_at {x = c.args.source.now} {y = c.is_taken.new.source} {z = c.stands_alone.new.source} c.is_taken.ensures.same.0 c.is_taken.ensures.same.1 tells c.stands_alone.ensures.same looks in
    (taken.searches.stays.window, taken.within)

pub pass-requires : goal.pass-requires
pass-requires g c =
    let job = c.args.job in
    let tells = rw c.if-not-branch.false at c.in_ok-is_taken.ensures.told in
    let looks = rw c.if-branch.false at c.in_ok-stands_alone.ensures.looks in
    let taken =
    taken_at {x = c.args.source.now} {y = c.is_taken.new.source} {z = c.stands_alone.new.source} c.is_taken.ensures.same.0 c.is_taken.ensures.same.1 tells c.stands_alone.ensures.same looks in
    let p : Piece = record { at = c.at-at.result; bytes = c.front-2.result; judged = c.in_ok-judged.judged } in
    let (window, work, within, is) = c.requires in
    let judged = subst (λ (b : List ℕ). IsJudged job.limits job.command c.style_at-style.result (origin_of c.at-at.result) b c.in_ok-judged.judged) c.front.ensures c.in_ok-judged.ensures in
    judged_on job c.args.tally.now.counts p c.style_at-style.ensures (c.front-2.ensures ∙ same_front taken.searches.stays within) is judged

pub returns-in_err-findings-clause-halts : goal.returns-in_err-findings-clause-halts
returns-in_err-findings-clause-halts g c =
    let tells = rw c.if-not-branch.false at c.in_ok-is_taken.ensures.told in
    let looks = rw c.if-branch.false at c.in_ok-stands_alone.ensures.looks in
    let taken =
    taken_at {x = c.args.source.now} {y = c.is_taken.new.source} {z = c.stands_alone.new.source} c.is_taken.ensures.same.0 c.is_taken.ensures.same.1 tells c.stands_alone.ensures.same looks in
    let p : Piece = record { at = c.at-at.result; bytes = c.front-2.result; judged = c.in_ok-judged.judged } in
    let there : IsPieceAt c.args.source.now c.stands_alone.new.source p c.args.len = record { at = c.at-at.ensures; bytes = c.front-2.ensures } in
    on_any _ _ (halts_piece taken there c.in_err-findings.ensures.halts)

pub returns-in_err-counted-clause-halts : goal.returns-in_err-counted-clause-halts
returns-in_err-counted-clause-halts g c =
    let tells = rw c.if-not-branch.false at c.in_ok-is_taken.ensures.told in
    let looks = rw c.if-branch.false at c.in_ok-stands_alone.ensures.looks in
    let taken =
    taken_at {x = c.args.source.now} {y = c.is_taken.new.source} {z = c.stands_alone.new.source} c.is_taken.ensures.same.0 c.is_taken.ensures.same.1 tells c.stands_alone.ensures.same looks in
    let p : Piece = record { at = c.at-at.result; bytes = c.front-2.result; judged = c.in_ok-judged.judged } in
    let there : IsPieceAt c.args.source.now c.stands_alone.new.source p c.args.len = record { at = c.at-at.ensures; bytes = c.front-2.ensures } in
    on_any _ _ (halts_piece taken there (halts_given c.in_ok-findings.findings c.in_ok-findings.ensures.gives))

pub pass-requires-2 : goal.pass-requires-2
pass-requires-2 g c =
    let tells = rw c.if-not-branch.false at c.in_ok-is_taken.ensures.told in
    let looks = rw c.if-branch.false at c.in_ok-stands_alone.ensures.looks in
    let taken =
    taken_at {x = c.args.source.now} {y = c.is_taken.new.source} {z = c.stands_alone.new.source} c.is_taken.ensures.same.0 c.is_taken.ensures.same.1 tells c.stands_alone.ensures.same looks in
    (taken.searches.stays.window, taken.within)

pub returns-in_err-pass-clause-halts : goal.returns-in_err-pass-clause-halts
returns-in_err-pass-clause-halts g c =
    let tells = rw c.if-not-branch.false at c.in_ok-is_taken.ensures.told in
    let looks = rw c.if-branch.false at c.in_ok-stands_alone.ensures.looks in
    let taken =
    taken_at {x = c.args.source.now} {y = c.is_taken.new.source} {z = c.stands_alone.new.source} c.is_taken.ensures.same.0 c.is_taken.ensures.same.1 tells c.stands_alone.ensures.same looks in
    let p : Piece = record { at = c.at-at.result; bytes = c.front-2.result; judged = c.in_ok-judged.judged } in
    let there : IsPieceAt c.args.source.now c.stands_alone.new.source p c.args.len = record { at = c.at-at.ensures; bytes = c.front-2.ensures } in
    on_any _ _ (halts_piece taken there (halts_given c.in_ok-findings.findings c.in_ok-findings.ensures.gives))

pub returns-clause-passed : goal.returns-clause-passed
returns-clause-passed g c =
    let x = c.args.source.now in
    let z = c.stands_alone.new.source in
    let tells = rw c.if-not-branch.false at c.in_ok-is_taken.ensures.told in
    let looks = rw c.if-branch.false at c.in_ok-stands_alone.ensures.looks in
    let taken =
    taken_at {x = c.args.source.now} {y = c.is_taken.new.source} {z = c.stands_alone.new.source} c.is_taken.ensures.same.0 c.is_taken.ensures.same.1 tells c.stands_alone.ensures.same looks in
    let p : Piece = record { at = c.at-at.result; bytes = c.front-2.result; judged = c.in_ok-judged.judged } in
    let there : IsPieceAt x z p c.args.len = record { at = c.at-at.ensures; bytes = c.front-2.ensures } in
    let (e, worked, gives, found) = c.in_ok-findings.ensures.gives x.work z.work x.broken in
    let counts : IsToCount c.args.job x z p e _ _ c.in_ok-findings.findings = record { worked = worked; gives = gives; found = found } in
    (piece e, tt, passes_piece c.in_ok-counted.counted taken there counts (rw c.in_ok-counted.ensures.same at c.with.ensures.counted) c.in_ok-pass.ensures.passed)
