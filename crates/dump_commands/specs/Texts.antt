-- Damaged documents that are kept, since all their faults are texts that aren't UTF-8.
use Rattle.std.specs.Prelude.{◌≡◌, ℕ, List, [], ◌∷◌, Option, None, Some, codes}
use Rattle.std.specs.Option.{option_map}
use Rattle.raw_form.specs.Replacing.{IsReplaced}
use Rattle.raw_tree.specs.declared.reader.limits.Limits.{Limits}
use Rattle.raw_view.specs.Frame.Envelope.{IsEnvelope}
use Rattle.dump_commands.specs.state.Forms.{Made, plain}
use Rattle.dump_commands.specs.declared.texts.Texts.{Texts}
use Rattle.dump_commands.specs.declared.texts.Texts.TheVariants as texts
use Rattle.dump_io.specs.declared.lines.find.Finding.{Finding}
use Rattle.dump_io.specs.declared.lines.find.Finding.TheVariants as finding
use Rattle.dump_io.specs.lines.Find.{Account}

-- the piece b is a document, which becomes a once its texts are replaced
abbrev pub IsKept : Limits → (b a : List ℕ) → Type 0
IsKept limits b a = IsEnvelope b × IsReplaced limits b a

-- what a damaged piece b is kept as: nothing, unless its texts are replaced, and it becomes a document then
abbrev pub KeepsAs : Texts → List ℕ → Option (List ℕ) → Type 0
KeepsAs texts.Checked b kept = kept ≡ None
KeepsAs (texts.Replaced limits) b None = (a : List ℕ) → ¬ IsKept limits b a
KeepsAs (texts.Replaced limits) b (Some a) = IsKept limits b a

-- what is made of it
abbrev pub made_of : Option (List ℕ) → List Made
made_of None = []
made_of (Some a) = plain a ∷ []

abbrev pub MakesKept : Texts → List ℕ → List Made → Type 0
MakesKept t b made = (kept : Option (List ℕ)) × KeepsAs t b kept × (made ≡ made_of kept)

-- what is told of a document that is kept so, in place of damage
abbrev pub replaced_account : Account → Account
replaced_account told = record { word = codes "replaced"; spot = told.spot; reason = told.reason }

abbrev pub told_of : Option (List ℕ) → Option Account → Option Account
told_of None account = account
told_of (Some a) account = option_map replaced_account account

-- what is told of a piece b in which this is found, if this is told of it where texts aren't replaced
abbrev pub TellsTexts : Texts → List ℕ → Finding → (account told : Option Account) → Type 0
TellsTexts t b finding.Damaged account told = (kept : Option (List ℕ)) × KeepsAs t b kept × (told ≡ told_of kept account)
TellsTexts t b found account told = told ≡ account
