use Rattle.std.proofs.Common.{length}
use Rattle.values_from_json.proofs.fault.behind_string.Given as goal

-- how many bytes are left
abbrev pub decreases-string : goal.decreases-string
decreases-string l = length l.rest
