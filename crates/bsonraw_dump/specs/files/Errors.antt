-- What standard error is told, a line each.
use Rattle.std.specs.Prelude.{ℕ, List, [], ◌++◌, Option, None, Some, codes, cond, decimal}
use Rattle.dump_io.specs.lines.Quoting.{quoted}
use Rattle.dump_io.specs.lines.Told.{object_line, error_members}
use Rattle.dump_io.specs.declared.input.done.Lack.{Lack}
use Rattle.dump_io.specs.declared.input.done.Lack.TheVariants as lack
use Rattle.dump_io.specs.declared.lines.failure.Failure.TheVariants as failure
use Rattle.dump_io.specs.declared.lines.style.Style.{Style}
use Rattle.dump_io.specs.declared.lines.style.Style.TheVariants as style

-- after a colon how many bytes of a file were read, if some were
abbrev pub place_text : Option ℕ → List ℕ
place_text None = []
place_text (Some at) = codes ":" ++ decimal at

-- the line of what goes wrong with a file, in quiet as in words
abbrev pub error_line : Style → List ℕ → Option ℕ → List ℕ → List ℕ
error_line style.Json name at text = object_line (error_members name at text)
error_line _ name at text = codes "bsonraw-dump: " ++ quoted name ++ (place_text at ++ codes ": " ++ text ++ codes "\n")

-- the input for which a file isn't written, if it is one; in words it is in quotes
abbrev pub input_words : Lack → List ℕ
input_words (lack.Cut cut) = quoted cut.name.now
input_words (lack.Failed _) = []

abbrev pub input_name : Lack → List ℕ
input_name (lack.Cut cut) = cut.name.now
input_name (lack.Failed _) = []

-- and why not, where an input that could be read on is told so
abbrev pub lack_words : List ℕ → Lack → List ℕ
lack_words way_on (lack.Cut cut) = cond cut.goes_on way_on (codes " wasn't read to its end")
lack_words way_on (lack.Failed failure.Memory) = codes "not enough memory"
lack_words way_on (lack.Failed _) = codes "writing failed"

-- the line of a file that isn't written, in quiet as in words
abbrev pub lack_line : List ℕ → Style → List ℕ → Lack → List ℕ
lack_line way_on style.Json name why = object_line (error_members name None (codes "not written: " ++ input_name why ++ lack_words way_on why))
lack_line way_on _ name why = quoted name ++ codes ": not written: " ++ input_words why ++ lack_words way_on why ++ codes "\n"
