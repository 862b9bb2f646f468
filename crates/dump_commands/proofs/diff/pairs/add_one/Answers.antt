use Rattle.std.proofs.Common.{rules, ◌≡◌, ◌∙◌, ◌+◌, ℕ, List, OnOk, ap}
use Rattle.dump_commands.specs.diff.Numbering.{number_at}
use Rattle.dump_commands.proofs.Pairing.{counts_more}
use Rattle.dump_commands.proofs.diff.pairs.add_one.Goals as goal

pub returns-clause-counted : goal.returns-clause-counted
returns-clause-counted c ss s same are =
    let now : c.in_ok-now.now ≡ number_at c.args.counts.now c.args.key + 1 = search rules in
    counts_more c.args.key c.args.counts.now c.put_count.new.counts c.in_ok-now.now now c.in_ok-put_count.ensures ss s same are
