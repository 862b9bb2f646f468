-- How it is told that no document begins at a place: in words, as an object of JSON, or not at all.
use Rattle.std.specs.Prelude.{ℕ, List, [], ◌∷◌, ◌++◌, Bool, true, false, Option, None, Some, codes, decimal}
use Rattle.std.specs.Fmt.{signed_decimal}
use Rattle.json.specs.Token.{Token, key, string, number}
use Rattle.dump_io.specs.declared.input.ending.Ending.{Ending}
use Rattle.dump_io.specs.declared.input.ending.Ending.TheVariants as ending
use Rattle.dump_io.specs.declared.input.rest.Rest.{Rest}
use Rattle.dump_io.specs.declared.input.rest.Rest.TheVariants as rest
use Rattle.dump_io.specs.declared.lines.style.Style.{Style}
use Rattle.dump_io.specs.declared.lines.style.Style.TheVariants as style
use Rattle.dump_io.specs.lines.Told.{line, object_line, head_members}

-- whether all places in what is passed over were checked
abbrev pub all_text : Bool → List ℕ
all_text true = []
all_text false = codes ", not each place checked"

-- what becomes of the bytes where no document begins, in words
abbrev pub rest_text : Rest → List ℕ
rest_text (rest.PassedOver skip) = codes ": " ++ decimal skip.count ++ codes " bytes passed over" ++ all_text skip.all
rest_text (rest.NotRead count) = codes ": " ++ decimal count ++ codes " bytes not read, --resync goes on"

-- the same as members of an object
abbrev pub all_members : Bool → List Token
all_members true = []
all_members false = key (codes "checked") ∷ string (codes "not each place") ∷ []

-- what becomes of these bytes as members of an object
abbrev pub rest_members : Rest → List Token
rest_members (rest.PassedOver skip) = key (codes "passed over") ∷ number (decimal skip.count) ∷ all_members skip.all
rest_members (rest.NotRead count) = key (codes "not read") ∷ number (decimal count) ∷ []

-- why no document is at the front of what is left, in words
abbrev pub ending_text : Ending → List ℕ
ending_text (ending.CutOff count) = codes "cut off: only " ++ decimal count ++ codes " bytes of a document"
ending_text (ending.Unsound len) = codes "unsound length " ++ signed_decimal len
ending_text (ending.WrongLength len) = codes "wrong length " ++ decimal len

-- the same as members of an object
abbrev pub ending_members : Ending → List Token
ending_members (ending.CutOff count) = key (codes "finding") ∷ string (codes "cut off") ∷ key (codes "bytes") ∷ number (decimal count) ∷ []
ending_members (ending.Unsound len) = key (codes "finding") ∷ string (codes "unsound length") ∷ key (codes "length") ∷ number (signed_decimal len) ∷ []
ending_members (ending.WrongLength len) = key (codes "finding") ∷ string (codes "wrong length") ∷ key (codes "length") ∷ number (decimal len) ∷ []

-- the line of a place at which no document begins, and what becomes of the bytes there
abbrev pub ending_line : Style → List ℕ → ℕ → Ending → Rest → List ℕ
ending_line style.Words name offset end left = line name offset (ending_text end ++ rest_text left)
ending_line style.Json name offset end left = object_line (head_members name offset ++ ending_members end ++ rest_members left)
ending_line style.Quiet name offset end left = []

-- the last line of an input: why no document is at the front of the `count` bytes left; none where nothing is left
abbrev pub last_line : Style → List ℕ → ℕ → Option Ending → ℕ → List ℕ
last_line style name offset None count = []
last_line style name offset (Some end) count = ending_line style name offset end (rest.NotRead count)
