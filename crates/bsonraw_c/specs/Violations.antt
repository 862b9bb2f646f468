-- Whether a document is canonical. The bytes b are the caller's, and so is the room for a path, before and after.
use Rattle.std.specs.Prelude.{◌≡◌, ◌⊎◌, ◌<◌, ℕ, ℤ, List, length}
use Rattle.raw_bson.specs.Envelope.{IsEnvelope}
use Rattle.raw_bson.specs.Limits.{Limits}
use Rattle.raw_form.specs.Places.{Step}
use Rattle.raw_form.specs.Tokens.{last_key}
use Rattle.raw_form.specs.Violations.{FirstViolation, IsCanonicalWithin, Violation, breach_of, too_deep}
use Rattle.bsonraw_c.specs.Codes.{IsNoFault, cause_code}
use Rattle.bsonraw_c.specs.Iters.{Returns}
use Rattle.bsonraw_c.specs.Reports.{EndsWith, HasNumbers, HasPlace, ReportsRefusal, RunsOut}
use Rattle.bsonraw_c.specs.declared.codes.Status.{Status}
use Rattle.bsonraw_c.specs.declared.codes.Status.TheVariants as status
use Rattle.bsonraw_c.specs.declared.report.Report.{Report}

-- the status of a violation
abbrev pub status_of_violation : Violation → Status
status_of_violation too_deep = status.TooDeep
status_of_violation (breach_of why) = status.Breach

-- the number of the cause of a breach; of a limit 0
abbrev pub cause_of_violation : Violation → ℕ
cause_of_violation too_deep = 0
cause_of_violation (breach_of why) = cause_code why

-- The first violation on the document b is reported with its place and its cause, and no fault; a stop has no key.
pub record ReportsViolation (limits : Limits) (b room path : List ℕ) (report : Report) (s : Status) : Type 0 where
  pub x : Violation
  pub steps : List Step
  pub offset : ℕ
  pub first : FirstViolation limits b x steps offset
  pub no_fault : IsNoFault report.fault.why
  pub place : HasPlace (length b) offset (length steps) (last_key steps) report
  pub cause : report.cause ≡ cause_of_violation x
  pub numbers : HasNumbers steps room path
  pub status_is : s ≡ status_of_violation x

-- What is returned of the document b: that it is canonical within the limits, or has too many bytes; or its first breach or
-- level that is too deep; or memory ran out.
abbrev pub ValidatesIn : Limits → List ℕ → List ℕ → List ℕ → Report → Status → Type 0
ValidatesIn limits b room path report s =
    (IsCanonicalWithin limits b × EndsWith status.Done b room path report s)
    ⊎ ((limits.bytes < length b) × EndsWith status.TooManyBytes b room path report s)
    ⊎ ReportsViolation limits b room path report s
    ⊎ RunsOut limits b room path report s

-- the same of any bytes
abbrev pub ValidatesBytes : Limits → List ℕ → List ℕ → List ℕ → Report → ℤ → Type 0
ValidatesBytes limits b room path report code =
    (IsEnvelope b × (s : Status) × ValidatesIn limits b room path report s × Returns s code) ⊎ ReportsRefusal b room path report code
