use Rattle.std.proofs.Common.{[], inl, inr, refl}
use Rattle.std.proofs.KnownBytes.{Appends-nil}
use Rattle.dump_commands.proofs.reporting.put_listing.Goals as goal

pub returns-in-Gathers : goal.returns-in-Gathers
returns-in-Gathers g c =
    let w = g.W.Write.contents c.args.report.now in
    elim c.in-Gathers.is [
      | inl is ↦ record { listed = ([], rw is.1 refl, Appends-nil w); front = tt; failed = tt }
      | inr is ↦ record { listed = ([], rw is.1 refl, Appends-nil w); front = tt; failed = tt }
    ]
