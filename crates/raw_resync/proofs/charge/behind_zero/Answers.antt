use Rattle.std.proofs.Common.{rules, ◌≡◌, ◌+◌, drop, subst, sym}
use Rattle.raw_resync.specs.Charge.{IsBehindZero}
use Rattle.raw_resync.proofs.Zeros.{found_zero}
use Rattle.raw_resync.proofs.charge.behind_zero.Goals as goal

pub returns-clause-found : goal.returns-clause-found
returns-clause-found c =
    let same : c.split_at.result.1.now ≡ drop (c.in_ok-at.at + 1) c.args.bytes.now = search rules in
    subst (IsBehindZero c.args.bytes.now) (sym same) (found_zero c.args.bytes.now c.in_ok-at.at c.in_ok-at.ensures)
