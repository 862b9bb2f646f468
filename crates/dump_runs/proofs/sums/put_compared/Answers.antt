use Rattle.std.proofs.Common.{◌≡◌, ◌∙◌, Option, Some, subst, sym}
use Rattle.dump_io.proofs.Face.{on_err}
use Rattle.dump_commands.specs.Commands.{compares}
use Rattle.dump_commands.specs.state.Gathered.{tabled}
use Rattle.dump_commands.specs.declared.diff.pairs.Compared.{Compared}
use Rattle.dump_commands.specs.declared.diff.sides.Comparing.{Comparing}
use Rattle.dump_runs.specs.Summed.{AreCompared, sum_of}
use Rattle.dump_runs.specs.Sums.{if_compared}
use Rattle.dump_runs.proofs.Telling.{compared_none, cut_front}
use Rattle.dump_runs.proofs.sums.put_compared.Goals as goal

pub returns-in_default-clause-written : goal.returns-in_default-clause-written
returns-in_default-clause-written g c =
    compared_none (g.I.Inputs.bytes_of c.args.inputs.now) (sum_of c.args.totals.now) c.args.job (g.W.Write.contents c.args.report.now) (sym c.comparing.ensures ∙ c.in_default.is)

pub returns-in_default-compared-clause-front : goal.returns-in_default-compared-clause-front
returns-in_default-compared-clause-front g c =
    let sum = sum_of c.args.totals.now in
    let comparing = c.in-Some.comparing in
    let all = (tabled sum.kept).sides in
    let compares_so : compares c.args.job.command ≡ Some comparing = sym c.comparing.ensures ∙ c.in-Some.is in
    let are = subst (λ (o : Option Comparing). AreCompared (if_compared sum.cut o all) c.args.compared.now) compares_so c.requires in
    let none = subst (λ (o : Option Compared). AreCompared (if_compared sum.cut (Some comparing) all) o) c.in_default-compared.is are in
    on_err c.put_uncompared.result _ _
    (cut_front (g.I.Inputs.bytes_of c.args.inputs.now) sum c.args.job comparing compares_so (g.W.Write.contents c.args.report.now) (g.W.Write.contents c.put_uncompared.new.report) none)
    c.put_uncompared.ensures.front
