-- The tokens of a document in the caller's room. The bytes b are the caller's, and so are the rooms for tokens and for a path,
-- before and after.
use Rattle.std.specs.Prelude.{◌≡◌, ◌⊎◌, ℕ, ℤ, List, length}
use Rattle.raw_bson.specs.Envelope.{IsEnvelope}
use Rattle.raw_bson.specs.Limits.{Limits}
use Rattle.raw_bson.specs.Tree.{Tree}
use Rattle.raw_bson.specs.WithinLimits.{ReadsWithin}
use Rattle.raw_form.specs.Tokens.{HasTokens, filled_from}
use Rattle.raw_form.specs.declared.token.Token.{Token}
use Rattle.bsonraw_c.specs.Iters.{Returns}
use Rattle.bsonraw_c.specs.Reports.{Fits, ReportsBarrier, ReportsRefusal, no_report, RunsOut}
use Rattle.bsonraw_c.specs.declared.codes.Status.{Status}
use Rattle.bsonraw_c.specs.declared.report.Report.{Report}

-- The document b has tokens within the limits. They are at the front of the room, or as many of them as it has places for.
pub record ReportsTokens (limits : Limits) (b : List ℕ) (before after : List Token) (room path : List ℕ) (report : Report) (s : Status) : Type 0 where
  pub tokens : List Token
  pub tree : Tree
  pub read : ReadsWithin limits b tree
  pub has : HasTokens limits.depth 0 0 b tokens
  pub filled : after ≡ filled_from 0 before tokens
  pub report_is : report ≡ record (no_report (length b)) { count = length tokens }
  pub status_is : Fits (length tokens) (length before) s
  pub path_is : path ≡ room

-- What is returned of the tokens of the document b: they are in the room; or its first barrier; or memory ran out.
abbrev pub FlattensIn : Limits → List ℕ → List Token → List Token → List ℕ → List ℕ → Report → Status → Type 0
FlattensIn limits b before after room path report s =
    ReportsTokens limits b before after room path report s ⊎ ReportsBarrier limits b room path report s ⊎ RunsOut limits b room path report s

-- the same of any bytes
abbrev pub FlattensBytes : Limits → List ℕ → List Token → List Token → List ℕ → List ℕ → Report → ℤ → Type 0
FlattensBytes limits b before after room path report code =
    (IsEnvelope b × (s : Status) × FlattensIn limits b before after room path report s × Returns s code)
    ⊎ (ReportsRefusal b room path report code × (after ≡ before))
