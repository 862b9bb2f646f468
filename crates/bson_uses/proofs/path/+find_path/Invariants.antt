use Rattle.std.proofs.Common.{length}
use Rattle.bson_uses.proofs.path.+find_path.Given as goal

-- the remaining keys
abbrev pub decreases-find_path : goal.decreases-find_path
decreases-find_path l = length l.path.now
