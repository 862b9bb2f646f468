-- What a command writes of the documents that it makes: unique one of each form.
use Rattle.std.specs.Prelude.{ℕ, List, [], Bool, true, false, flat_map, fold}
use Rattle.dump_io.specs.lines.Origins.{Repeat}
use Rattle.dump_commands.specs.Making.{is_unique}
use Rattle.dump_commands.specs.state.Forms.{Firsts, Made, Placed, first_made, repeats, with_first, with_made}
use Rattle.dump_commands.specs.declared.command.Command.{Command}
use Rattle.dump_commands.specs.declared.command.Command.TheVariants as command

-- whether a command writes one document of each form, and no other
abbrev pub writes_once : Command → Bool
writes_once (command.Prints r) = false
writes_once (command.Gathers g) = false
writes_once (command.Writes m) = is_unique m

-- what is kept of the documents that are made: where one of each form is written, those whose form's digest didn't come before
abbrev pub kept_if : (once : Bool) → (List ℕ → Bool) → List Made → List Made
kept_if true known made = first_made known made
kept_if false known made = made

abbrev pub kept_of : Command → (List ℕ → Bool) → List Made → List Made
kept_of c known made = kept_if (writes_once c) known made

-- what is written of them, one after the other
abbrev pub written_of : Command → (List ℕ → Bool) → List Made → List ℕ
written_of c known made = flat_map (λ (m : Made). m.bytes) (kept_of c known made)

-- the digests that are known after these documents
abbrev pub known_if : (once : Bool) → (List ℕ → Bool) → List Made → List ℕ → Bool
known_if true known made = fold with_made known made
known_if false known made = known

abbrev pub known_behind : Command → (List ℕ → Bool) → List Made → List ℕ → Bool
known_behind c known made = known_if (writes_once c) known made

-- the repeats among the documents of which these are made
abbrev pub repeats_if : (once : Bool) → Firsts → List Placed → List Repeat
repeats_if true firsts ps = repeats firsts ps
repeats_if false firsts ps = []

abbrev pub repeats_of : Command → Firsts → List Placed → List Repeat
repeats_of c firsts ps = repeats_if (writes_once c) firsts ps

-- the places that are known after these documents
abbrev pub firsts_if : (once : Bool) → Firsts → List Placed → Firsts
firsts_if true firsts ps = fold with_first firsts ps
firsts_if false firsts ps = firsts

abbrev pub firsts_behind : Command → Firsts → List Placed → Firsts
firsts_behind c firsts ps = firsts_if (writes_once c) firsts ps
