use Rattle.std.proofs.Common.{ap, length, refl}
use Rattle.dump_io.specs.lines.Origins.{origin_of}
use Rattle.dump_io.proofs.Face.{on_ok}
use Rattle.dump_commands.specs.state.Gathered.{gathered_of, of_length, of_place, of_rank}
use Rattle.dump_commands.specs.state.Measures.{Measured}
use Rattle.dump_commands.proofs.state.gathered.Gathered.measure.Goals as goal

pub returns-in-Histogram-clause-added : goal.returns-in-Histogram-clause-added
returns-in-Histogram-clause-added c =
    on_ok c.add_length.result _ _
    (λ added. (
      of_length c.range_of.result,
      rw c.in-Histogram.is (c.range_of.result, c.range_of.ensures, refl),
      ap (λ (m : Measured). record (gathered_of c.args.self.now) { measures = m }) added,
    ))
    c.add_length.ensures.added

pub returns-in_ok-add_ranked-in-Largest-clause-added : goal.returns-in_ok-add_ranked-in-Largest-clause-added
returns-in_ok-add_ranked-in-Largest-clause-added c =
    let id = c.in_ok-id-in-Largest.id.items in (
      of_rank c.in-Largest.most (record { place = origin_of c.args.place; size = length c.args.bytes.now; id = id }),
      rw c.in-Largest.is (id, c.in_ok-id-in-Largest.ensures, refl),
      ap (λ (m : Measured). record (gathered_of c.args.self.now) { measures = m }) c.in_ok-add_ranked-in-Largest.ensures,
    )

pub returns-in-Parts-clause-added : goal.returns-in-Parts-clause-added
returns-in-Parts-clause-added c =
    on_ok c.add_divided.result _ _
    (λ added. (of_place c.in-Parts.stretch (origin_of c.args.place), rw c.in-Parts.is refl, ap (λ (m : Measured). record (gathered_of c.args.self.now) { measures = m }) added))
    c.add_divided.ensures.added
