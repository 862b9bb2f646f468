use Rattle.std.proofs.Common.{List, ℕ, Some, ap}
use Rattle.std.specs.BTreeMap.{is_at}
use Rattle.std.specs.Cmp.Lexicographic.{slice_cmp}
use Rattle.std.specs.Map.{lookup}
use Rattle.std.specs.Option.{option_map}
use Rattle.std.specs.Ordering.{nat_cmp}
use Rattle.dump_io.specs.lines.Origins.{origin_of}
use Rattle.dump_io.specs.declared.lines.origin.Origin.{Origin}
use Rattle.dump_commands.proofs.state.kept.no_places.Goals as goal

pub returns-clause-firsts : goal.returns-clause-firsts
returns-clause-firsts c =
    ap (λ (es : List (List ℕ × Origin)). Some (λ (d : List ℕ). option_map origin_of (lookup (is_at (slice_cmp nat_cmp d)) es))) c.new.ensures.empty
