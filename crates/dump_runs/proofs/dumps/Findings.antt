-- A document in which no damage is found.
use Rattle.std.proofs.Common.{Bool, true, false, ℕ, List, Option, refl, inl, inr}
use Rattle.bson_model.specs.Tree.{document}
use Rattle.raw_tree.specs.declared.reader.limits.Limits.{Limits}
use Rattle.raw_tree.proofs.Face.{document_reads, read_within}
use Rattle.raw_resync.specs.Resync.{IsSound}
use Rattle.dump_io.specs.input.Cut.{IsPiece}
use Rattle.dump_io.specs.lines.Find.{Account, Finds, MayBeDamaged}
use Rattle.dump_commands.specs.Findings.{FindsFor, FindsIf}
use Rattle.dump_commands.specs.Gathering.{gathering_profile}
use Rattle.dump_commands.specs.Reporting.{report_profile}
use Rattle.dump_commands.specs.declared.command.Command.{Command}
use Rattle.dump_commands.specs.declared.command.Command.TheVariants as command
use Rattle.dump_io.specs.declared.lines.find.Finding.{Finding}
use Rattle.dump_io.specs.declared.lines.find.Finding.TheVariants as finding

-- a document in which no damage is found is without damage
sound_of : {limits : Limits} (b : List ℕ) (f : Finding) (told : Option Account) → IsPiece limits.bytes b → Finds limits b f told → ¬ MayBeDamaged f → IsSound limits b
sound_of {limits} b finding.Canonical told piece (envelope, (few, canonical), none) clean =
    let (es, reads) = document_reads limits.depth b canonical in record { piece = piece; envelope = envelope; tree = document es; reads = read_within limits b (document es) few reads }
sound_of b finding.Breached told piece (envelope, (tree, reads), first) clean = record { piece = piece; envelope = envelope; tree = tree; reads = reads }
sound_of b finding.Damaged told piece found clean = absurd (clean (inl refl))
sound_of b finding.TooDeep told piece found clean = absurd (clean (inr (inl refl)))
sound_of b finding.Unvalidated told piece found clean = absurd found

sound_if : {limits : Limits} (looks : Bool) (b : List ℕ) (f : Finding) (told : Option Account) → IsPiece limits.bytes b → FindsIf looks limits b f told → ¬ MayBeDamaged f → IsSound limits b
sound_if true b f told piece found clean = sound_of b f told piece found clean
sound_if false b f told piece found clean = absurd (clean (inr (inr found.0)))

pub finds_sound : {limits : Limits} (c : Command) (b : List ℕ) (f : Finding) (told : Option Account) → IsPiece limits.bytes b → FindsFor limits c b f told → ¬ MayBeDamaged f → IsSound limits b
finds_sound (command.Prints r) b f told piece found clean = sound_if (report_profile r).looks b f told piece found clean
finds_sound (command.Gathers g) b f told piece found clean = sound_if (gathering_profile g).looks b f told piece found clean
finds_sound (command.Writes m) b f told piece (account, found, tells) clean = sound_of b f account piece found clean
