use Rattle.bson_to_json.proofs.Common.{Appends, encode_of, standard}
use Rattle.std.proofs.Common.{◌≡◌, ◌≤◌, ◌-◌, ◌%◌, length, take}
use Rattle.bson_to_json.proofs.leaf.put_base64.Given as goal

-- the bytes so far are written, in groups of three
abbrev pub invariant-chunks : goal.invariant-chunks
invariant-chunks g l = (l.at ≤ length l.bytes) × (l.at % 3 ≡ 0) × Appends (g.W.Write.contents l.fn.out) (g.W.Write.contents l.out) (encode_of standard (take l.at l.bytes))

abbrev pub decreases-chunks : goal.decreases-chunks
decreases-chunks g l = length l.bytes - l.at
