use Rattle.std.proofs.Common.{◌≤◌, ◌-◌}
use Rattle.raw_resync.specs.Seeking.{IsWork}
use Rattle.raw_resync.proofs.Passing.{HasPassed}
use Rattle.raw_resync.proofs.search.seek.Given as goal

-- the places before were passed
abbrev pub invariant-looks : goal.invariant-looks
invariant-looks l =
    IsWork l.work × (l.place ≤ l.places.until)
    × HasPassed l.part.limits l.part.bytes.now l.part.is_last l.part.at l.places.from l.place l.initial.work l.work l.all

abbrev pub decreases-looks : goal.decreases-looks
decreases-looks l = l.places.until - l.place
