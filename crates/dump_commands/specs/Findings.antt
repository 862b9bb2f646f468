-- What a command finds in the bytes of one document.
use Rattle.std.specs.Prelude.{◌≡◌, Bool, true, false, ℕ, List, Option, None}
use Rattle.raw_tree.specs.declared.reader.limits.Limits.{Limits}
use Rattle.dump_commands.specs.Gathering.{gathering_profile}
use Rattle.dump_commands.specs.Making.{texts_of}
use Rattle.dump_commands.specs.Reporting.{first_line, report_profile}
use Rattle.dump_commands.specs.Texts.{TellsTexts}
use Rattle.dump_commands.specs.declared.command.Command.{Command}
use Rattle.dump_commands.specs.declared.command.Command.TheVariants as command
use Rattle.dump_commands.specs.declared.finding.Judged.{Judged}
use Rattle.dump_io.specs.declared.lines.find.Finding.{Finding}
use Rattle.dump_io.specs.declared.lines.find.Finding.TheVariants as finding
use Rattle.dump_io.specs.declared.lines.style.Style.{Style}
use Rattle.dump_io.specs.lines.Find.{Account, Finds}
use Rattle.dump_io.specs.lines.Origins.{Origin}

-- what is found in a piece b, and what is told of it, if it is looked into; else it isn't validated, and nothing is told
abbrev pub FindsIf : (looks : Bool) → Limits → List ℕ → Finding → Option Account → Type 0
FindsIf true limits b found told = Finds limits b found told
FindsIf false limits b found told = (found ≡ finding.Unvalidated) × (told ≡ None)

-- what a command finds in a piece b, and what is told of it: one that writes documents may keep what is damaged, where that is its texts alone
abbrev pub FindsFor : Limits → Command → List ℕ → Finding → Option Account → Type 0
FindsFor limits (command.Prints r) b found told = FindsIf (report_profile r).looks limits b found told
FindsFor limits (command.Gathers g) b found told = FindsIf (gathering_profile g).looks limits b found told
FindsFor limits (command.Writes m) b found told = (account : Option Account) × Finds limits b found account × TellsTexts (texts_of m) b found account told

-- What the code tells. No public contract cites what follows.

-- what is found, and its first line were made
abbrev pub IsJudged : Limits → Command → Style → Origin → List ℕ → Judged → Type 0
IsJudged limits c style at b judged =
    (told : Option Account) × FindsFor limits c b judged.finding told × (judged.line.items ≡ first_line c style at b judged.finding told)
