-- How it is told what is wrong with a text, and what was counted.
use Rattle.std.specs.Prelude.{ℕ, List, [], ◌∷◌, ◌++◌, codes, decimal}
use Rattle.dump_io.specs.lines.Quoting.{quoted}
use Rattle.json.specs.Token.{key, number, string}
use Rattle.bson_from_json.specs.JsonReason.{JsonReason}
use Rattle.bson_from_json.specs.JsonReason.TheVariants as json
use Rattle.bson_from_json.specs.Reasons.{reason_words}
use Rattle.dump_io.specs.lines.Told.{object_line}
use Rattle.dump_io.specs.declared.input.position.Position.{Position}
use Rattle.dump_io.specs.declared.input.turn.Turn.{Turn}
use Rattle.dump_io.specs.declared.input.turn.Turn.TheVariants as turn
use Rattle.dump_io.specs.declared.lines.style.Style.{Style}
use Rattle.dump_io.specs.declared.lines.style.Style.TheVariants as style
use Rattle.dump_runs.specs.declared.texts.fault.TextReason.{TextReason}
use Rattle.dump_runs.specs.declared.texts.fault.TextReason.TheVariants as reason

-- why a text isn't read
abbrev pub reason_text : TextReason → List ℕ
reason_text reason.NotUtf8 = codes "not UTF-8"
reason_text (reason.Json why) = reason_words why

-- why a byte can't be where this may come
abbrev pub reason_between : Turn → JsonReason
reason_between turn.Comma = json.ExpectedComma
reason_between turn.Last = json.TextBehind
reason_between _ = json.ExpectedDocument

-- the line of what is wrong at a place of an input
abbrev pub fault_line : Style → List ℕ → Position → TextReason → List ℕ
fault_line style.Words name place why = quoted name ++ codes ":" ++ decimal place.line ++ codes ":" ++ decimal place.column ++ codes ": " ++ reason_text why ++ codes "\n"
fault_line style.Json name place why =
    object_line (
    key (codes "file") ∷ string name ∷ key (codes "line") ∷ number (decimal place.line) ∷ key (codes "column") ∷ number (decimal place.column)
    ∷ key (codes "finding") ∷ string (codes "fault") ∷ key (codes "reason") ∷ string (reason_text why) ∷ []
    )
fault_line style.Quiet name place why = []
