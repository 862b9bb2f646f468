-- That nothing repeats where nothing is made.
use Rattle.std.proofs.Common.{◌≡◌, Bool, true, false, [], refl}
use Rattle.dump_commands.specs.state.Forms.{Firsts}
use Rattle.dump_commands.specs.Unique.{firsts_if, repeats_if}

pub firsts_none : (once : Bool) (f : Firsts) → firsts_if once f [] ≡ f
firsts_none true f = refl
firsts_none false f = refl

pub repeats_none : (once : Bool) (f : Firsts) → repeats_if once f [] ≡ []
repeats_none true f = refl
repeats_none false f = refl
