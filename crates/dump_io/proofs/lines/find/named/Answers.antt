use Rattle.std.proofs.Common.{rules, ◌≡◌, ◌+◌, ◌-◌, length, refl}
use Rattle.std.specs.Option.{option_copied}
use Rattle.std.specs.Vec.{vec_len}
use Rattle.dump_io.proofs.lines.Naming.{named_set}
use Rattle.dump_io.proofs.lines.find.named.Goals as goal

pub returns-in-Some : goal.returns-in-Some
returns-in-Some c =
    let path = c.args.place.path in
    let len : vec_len path - 1 + 1 ≡ length path.items = search rules in
    let named = named_set path.items (vec_len path - 1) (option_copied c.args.key) c.in-Some.last.now _ len c.in-Some.ensures.value refl c.key_or-last.ensures in
    λ i. record { path = named i; offset = c.args.place.offset }
