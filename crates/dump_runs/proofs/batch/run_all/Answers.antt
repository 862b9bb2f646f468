use Rattle.std.proofs.Common.{◌≡◌, option_map, subst, sym, Bool, Bor, List, Option, map, ℕ}
use Rattle.dump_commands.specs.declared.counts.Counts.{Counts}
use Rattle.dump_runs.specs.Status.{IsStatus}
use Rattle.dump_runs.specs.Sums.{differs_by}
use Rattle.dump_runs.specs.Batch.{EndsAll, start_of, sum_in}
use Rattle.dump_io.specs.declared.input.done.Lack.{Lack}
use Rattle.dump_io.specs.declared.input.done.Lack.TheVariants as lack
use Rattle.dump_runs.proofs.Summing.{ends_front, ends_whole, lack_of, still_known}
use Rattle.dump_runs.proofs.batch.run_all.Goals as goal

pub returns-in-Ok : goal.returns-in-Ok
returns-in-Ok g c =
    let asked = c.args.reading in
    let bytes_of = g.I.Inputs.bytes_of c.args.inputs.now in
    let names = map (λ (name : Bor (List ℕ)). name.now) c.args.names.now in
    let old = c.args.writers.now in
    let new = c.run_each.new.writers in
    let t = c.new-totals.result in
    let t' = c.run_each.new.totals in
    let (last, runs, counted, same, differs) = c.in-Ok.ensures.runs in
    let lacks : c.map.result ≡ option_map lack.Cut t'.cut = lack_of t'.cut c.map.result c.map.ensures.cases in
    let status : IsStatus asked last.counts (differs_by asked (sum_in last)) c.status_of.result =
    subst (λ (n : Counts). IsStatus asked n (differs_by asked (sum_in last)) c.status_of.result) (sym counted)
    (subst (λ (d : Bool). IsStatus asked t'.counts d c.status_of.result) differs c.status_of.ensures) in
    let ends = ends_whole old t t'.cut c.status_of.result c.new-totals.ensures.counts c.new-totals.ensures.cut runs same status in
    record {
      kept = t.tally.kept;
      nothing = c.new-totals.ensures.kept;
      ends = subst (λ (l : Option Lack). EndsAll asked bytes_of names (start_of old t.tally.kept) new l c.status_of.result) (sym lacks) ends;
    }

pub returns : goal.returns
returns g c =
    let t = c.new-totals.result in
    let (is, front, known) = c.in-Err.ensures.fails in
    record {
      kept = t.tally.kept;
      nothing = c.new-totals.ensures.kept;
      ends = ends_front c.args.writers.now t c.run_each.new.differs c.cause_of-failure.result
          c.status_of_failure.result c.new-totals.ensures.counts c.new-totals.ensures.cut (is, front, still_known is c.run_each.new.differs _ _ c.cause_of-failure.ensures.memory known)
          c.status_of_failure.ensures c.cause_of-failure.ensures.caused;
    }
