-- What is written and kept of what a command makes of a document.
use Rattle.std.specs.Prelude.{◌≡◌, ℕ, ◌+◌, List, Option, length}
use Rattle.std.specs.Io.KnownBytes.{Appends}
use Rattle.std.specs.Option.{option_map}
use Rattle.dump_commands.specs.Making.{Makes}
use Rattle.dump_commands.specs.Unique.{firsts_behind, kept_of, known_behind, repeats_of, written_of}
use Rattle.dump_commands.specs.state.Forms.{Made, firsts_of, knows, placed_at, repeat_at, written_count}
use Rattle.dump_io.specs.lines.Origins.{Origin, origin_of}
use Rattle.dump_commands.specs.declared.command.Command.{Command}
use Rattle.dump_commands.specs.declared.state.kept.Kept.{Kept}
use Rattle.dump_io.specs.declared.lines.origin.Origin as origin
use Rattle.dump_io.specs.declared.lines.find.Finding.{Finding}

-- this is written of the documents that a command makes of a piece b in which this is found
abbrev pub IsMade : Command → List ℕ → Finding → Kept → List ℕ → Type 0
IsMade c b found kept text = (made : List Made) × Makes c b found made × (text ≡ written_of c (knows kept) made)

-- these documents are written and counted, or of unique those whose forms are new, and the digests of their forms are known then
pub record Writes (c : Command) (made : List Made) (out_old out_new : Option (List ℕ)) (kept_old kept_new : Kept) : Type 0 where
  pub is_written : Appends out_old out_new (written_of c (knows kept_old) made)
  pub is_known : (d : List ℕ) → knows kept_new d ≡ known_behind c (knows kept_old) made d
  pub is_counted : written_count kept_new ≡ written_count kept_old + length (kept_of c (knows kept_old) made)

-- These documents are made of the one at this place, which is kept where the digest of their form has none; and it repeats the first
-- with that digest, if one came before.
pub record Places (c : Command) (place : Origin) (made : List Made) (kept_old kept_new : Kept) (first : Option Origin) : Type 0 where
  pub placed : firsts_of kept_new ≡ firsts_behind c (firsts_of kept_old) (placed_at place made)
  pub repeats : repeat_at place first ≡ repeats_of c (firsts_of kept_old) (placed_at place made)

-- the same of the code, and they are written
abbrev pub Puts : Command → origin.Origin → List Made → (out_old out_new : Option (List ℕ)) → (kept_old kept_new : Kept) → Option origin.Origin → Type 0
Puts c place made out_old out_new kept_old kept_new first =
    Writes c made out_old out_new kept_old kept_new × Places c (origin_of place) made kept_old kept_new (option_map origin_of first)

-- Of this piece at this place, in which this is found, a document is made and written, which repeats the one at that place, if there is one.
abbrev pub Emits : Command → origin.Origin → List ℕ → Finding → (out_old out_new : Option (List ℕ)) → (kept_old kept_new : Kept) → Option origin.Origin → Type 0
Emits c place b found out_old out_new kept_old kept_new first =
    (made : List Made) × Makes c b found made × Puts c place made out_old out_new kept_old kept_new first
