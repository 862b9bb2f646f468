use Rattle.bson_to_json.proofs.Common.{Guards, bytes_of}
use Rattle.std.proofs.Common.{◌≡◌, ◌-◌, ◌∷◌, ℕ, List, true, length}
use Rattle.bson_to_json.proofs.Blocks.{IsHeld}
use Rattle.bson_to_json.proofs.Walking.{IsGoing}
use Rattle.bson_to_json.proofs.print.print.Given as goal

abbrev pub invariant-events : goal.invariant-events
invariant-events g l =
    (told : List ℕ) × IsGoing l.fn.style l.fn.limits l.fn.document l.walk l.level l.sorts.items l.sort told
    × IsHeld g.S.Sink.has l.fn.out l.out l.block.items (123 ∷ told) × (l.fn.careful ≡ true → Guards l.fn.limits (bytes_of l.fn.document) l.unseen l.fn.out l.out)
    × (g.S.Sink.has_failed l.out ≡ g.S.Sink.has_failed l.fn.out)

-- the bytes after the offset
abbrev pub decreases-events : goal.decreases-events
decreases-events g l = length (bytes_of l.fn.document) - l.level.offset
