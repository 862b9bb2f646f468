-- Whether a command makes BSON, which is no text.
use Rattle.std.specs.Prelude.{◌≡◌, ℕ, List, [], ◌∷◌, ◌++◌}
use Rattle.raw_view.specs.Frame.Envelope.{IsEnvelope}
use Rattle.dump_commands.specs.Making.{Makes}
use Rattle.dump_commands.specs.state.Forms.{Made, made_as, plain}
use Rattle.dump_commands.specs.declared.command.Command.{Command}
use Rattle.dump_io.specs.declared.lines.find.Finding.TheVariants as finding

-- what a command makes of each canonical document ends in a 0, as BSON does and no text of JSON
abbrev pub MakesBson : Command → Type 0
MakesBson c = (b : List ℕ) (made : List Made) → IsEnvelope b → Makes c b finding.Canonical made → (d : List ℕ) × (made ≡ plain (d ++ 0 ∷ []) ∷ [])

-- what it makes of a canonical document never does
abbrev pub MakesNoBson : Command → Type 0
MakesNoBson c = (b d form : List ℕ) → ¬ Makes c b finding.Canonical (made_as (d ++ 0 ∷ []) form ∷ [])
