use Rattle.std.proofs.Common.{inl, inr}
use Rattle.std.proofs.KnownBytes.{Appends-nil}
use Rattle.dump_runs.proofs.sums.put_input.Goals as goal

pub returns-in-Last : goal.returns-in-Last
returns-in-Last g c =
    let w = g.W.Write.contents c.args.report.now in
    elim c.in-Last.is [
      | inl last ↦ record { written = rw (c.profile.ensures, last) (Appends-nil w); front = tt; failed = tt }
      | inr never ↦ record { written = rw (c.profile.ensures, never) (Appends-nil w); front = tt; failed = tt }
    ]
