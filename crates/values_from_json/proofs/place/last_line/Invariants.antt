use Rattle.std.proofs.Common.{◌≡◌, ◌≤◌, take}
use Rattle.values_from_json.specs.Place.{EndsLine, line_feeds}
use Rattle.values_from_json.proofs.place.last_line.Given as goal

-- the last line so far begins there
abbrev pub invariant-loop-place : goal.invariant-loop-place
invariant-loop-place l =
    (l.start ≤ l.place) × EndsLine (take l.start l.text) × (line_feeds (take l.place l.text) ≡ line_feeds (take l.start l.text))
