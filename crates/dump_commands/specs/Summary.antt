-- How what was counted is told: in words, as an object of JSON, or not at all.
use Rattle.std.specs.Prelude.{ℕ, zero, suc, List, [], ◌∷◌, ◌++◌, ◌-◌, ◌==◌, if◌then◌else◌, Bool, true, false, Option, None, Some, codes, decimal, flat_map}
use Rattle.dump_io.specs.lines.Quoting.{quoted}
use Rattle.json.specs.Token.{Token, key, string, number}
use Rattle.dump_commands.specs.declared.command.Breaches.{Breaches}
use Rattle.dump_commands.specs.declared.command.Breaches.TheVariants as breaches
use Rattle.dump_commands.specs.declared.counts.Counts.{Counts}
use Rattle.dump_commands.specs.declared.summary.counted.Count as summary
use Rattle.dump_io.specs.declared.lines.style.Style.{Style}
use Rattle.dump_io.specs.declared.lines.style.Style.TheVariants as style
use Rattle.dump_io.specs.lines.Told.{object_line}

-- a number that is counted
abbrev pub Count : Type 0
Count = List ℕ × ℕ

-- what a number of the code counts
abbrev pub count_of : summary.Count → Count
count_of count = (count.name.now, count.number)

-- what a command that keeps documents tells first: how many, how many damaged regions there are, and how many bytes they have
abbrev pub first_counts : Counts → (kept : ℕ) → List Count
first_counts n kept = (codes "kept", kept) ∷ (codes "damaged regions", n.regions) ∷ (codes "bytes lost", n.lost) ∷ []

-- how many documents stand alone, and how many others a command left out, if it keeps any
abbrev pub left_out_counts : Bool → Counts → (kept : ℕ) → List Count
left_out_counts false n kept = []
left_out_counts true n kept = (codes "alone", n.alone) ∷ (codes "left out", n.documents - n.alone - kept) ∷ []

-- how many documents without damage aren't canonical, where they are counted
abbrev pub breached_counts : Breaches → Counts → List Count
breached_counts breaches.Ignored n = []
breached_counts breaches.Counted n = (codes "not canonical", n.breached) ∷ []
breached_counts breaches.Found n = (codes "not canonical", n.breached) ∷ []

-- how many documents are damaged or too deep, where they are looked into
abbrev pub damaged_counts : (looks : Bool) → Counts → List Count
damaged_counts false n = []
damaged_counts true n = (codes "damaged", n.damaged) ∷ (codes "too deep", n.too_deep) ∷ []

-- the bytes of which no document is made, and the files of which they are some
abbrev pub left_counts : Counts → List Count
left_counts n = (codes "bytes passed over", n.passed_over) ∷ (codes "bytes not read", n.not_read) ∷ (codes "files not read to the end", n.files) ∷ []

-- the findings that aren't printed, where there is a most
abbrev pub hidden_counts : Option ℕ → Counts → List Count
hidden_counts None n = []
hidden_counts (Some most) n = (codes "findings not printed", n.findings - most) ∷ []

-- a number after its name, in words
abbrev pub count_text : Count → List ℕ
count_text count = count.0 ++ codes ": " ++ decimal count.1

-- the same after another one
abbrev pub next_text : Count → List ℕ
next_text count = codes ", " ++ count_text count

-- the number of documents, and what else is counted, with commas between
abbrev pub counts_text : ℕ → List Count → List ℕ
counts_text documents counts = count_text (codes "documents", documents) ++ flat_map next_text counts

-- a number after its name, as a member of an object
abbrev pub count_members : Count → List Token
count_members count = key count.0 ∷ number (decimal count.1) ∷ []

-- the name of an input, of whose counts a line tells; none where it tells of all
abbrev pub name_text : Option (List ℕ) → List ℕ
name_text None = []
name_text (Some name) = quoted name ++ codes ": "

abbrev pub name_members : Option (List ℕ) → List Token
name_members None = []
name_members (Some name) = key (codes "file") ∷ string name ∷ []

-- the line that tells these counts of an input, or of all
abbrev pub counts_line : Style → Option (List ℕ) → (documents : ℕ) → List Count → List ℕ
counts_line style.Words name documents counts = name_text name ++ counts_text documents counts ++ codes "\n"
counts_line style.Json name documents counts = object_line (name_members name ++ count_members (codes "documents", documents) ++ flat_map count_members counts)
counts_line style.Quiet name documents counts = []

-- the same unless it is 0
abbrev pub some_text : Count → List ℕ
some_text (name, zero) = []
some_text (name, suc n) = next_text (name, suc n)

-- the end of the name of this number of things
abbrev pub plural : ℕ → List ℕ
plural n = if n == 1 then [] else codes "s"

-- a number of things, which are named by their singular
abbrev pub things_text : ℕ → (one : List ℕ) → List ℕ
things_text n one = decimal n ++ one ++ plural n

-- what a command that keeps documents tells first, in words
abbrev pub kept_text : Counts → (kept : ℕ) → List ℕ
kept_text n kept =
    decimal kept ++ codes " kept; " ++ things_text n.regions (codes " damaged region") ++ codes ", " ++ things_text n.lost (codes " byte") ++ codes " lost"

-- the line that tells what a command that keeps documents counted: in words that, and then the counts that aren't 0
abbrev pub kept_line : Style → Option (List ℕ) → Counts → (kept : ℕ) → List Count → List ℕ
kept_line style.Words name n kept counts = name_text name ++ kept_text n kept ++ some_text (codes "documents", n.documents) ++ flat_map some_text counts ++ codes "\n"
kept_line style.Json name n kept counts =
    object_line (name_members name ++ count_members (codes "documents", n.documents) ++ flat_map count_members (first_counts n kept) ++ flat_map count_members counts)
kept_line style.Quiet name n kept counts = []

-- the same of any command
abbrev pub line_of : Bool → Style → Option (List ℕ) → Counts → (kept : ℕ) → List Count → List ℕ
line_of true style name n kept counts = kept_line style name n kept counts
line_of false style name n kept counts = counts_line style name n.documents counts

-- what is counted of texts beside the documents: the texts with a fault, and the files that aren't read to their end
abbrev pub text_counts : Option ℕ → Counts → List Count
text_counts limit n = (codes "bytes", n.bytes) ∷ (codes "faults", n.damaged) ∷ (codes "files that can't be read", n.files) ∷ hidden_counts limit n

-- the line that tells it
abbrev pub text_summary : Style → Option ℕ → Counts → List ℕ
text_summary style limit n = counts_line style None n.documents (text_counts limit n)
