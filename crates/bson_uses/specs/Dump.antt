-- Documents end to end.
use Rattle.std.specs.Prelude.{ℕ, ◌<◌, List, length}
use Rattle.raw_bson.specs.FirstDocument.{RefusesFirst}
use Rattle.raw_bson.specs.NoDocument.{NoDocument}

-- something is left, and why no document is at its front
abbrev pub RefusesRest : List ℕ → NoDocument → Type 0
RefusesRest s why = (0 < length s) × RefusesFirst s why
