-- The digests that are known where what was written doesn't change.
use Rattle.std.proofs.Common.{◌≡◌, ℕ, List, ap}
use Rattle.dump_commands.specs.state.Forms.{has_digest, knows}
use Rattle.dump_commands.specs.declared.state.kept.Kept.{Kept}

pub known_same : (k k' : Kept) (d : List ℕ) → k'.forms ≡ k.forms → knows k' d ≡ knows k d
known_same k k' d same = ap (λ forms. has_digest forms d) same
