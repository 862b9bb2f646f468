-- What is reported of a whole document. The bytes b are the caller's, and so is the room for a path, before and after.
use Rattle.std.specs.Prelude.{◌≡◌, ◌⊎◌, ◌<◌, ◌≤◌, ◌+◌, ℕ, ℤ, List, map, length, Option, None, Some}
use Rattle.raw_bson.specs.Envelope.{IsEnvelope, Refuses}
use Rattle.raw_bson.specs.ErrorKind.TheVariants as kind
use Rattle.raw_bson.specs.Limits.{Limits}
use Rattle.raw_bson.specs.Reason.{Reason}
use Rattle.raw_bson.specs.Tree.{Tree}
use Rattle.raw_bson.specs.WithinLimits.{Barrier, ReadsWithin, fault_of, too_deep, too_many_bytes}
use Rattle.raw_form.specs.Places.{FirstBarrierAt, Step}
use Rattle.raw_form.specs.Tokens.{filled_from, last_key}
use Rattle.bsonraw_c.specs.Codes.{IsNoFault, SaysKind, TellsFaultCode}
use Rattle.bsonraw_c.specs.Iters.{Returns}
use Rattle.bsonraw_c.specs.Values.{no_fault}
use Rattle.bsonraw_c.specs.declared.answers.FaultCode.{FaultCode}
use Rattle.bsonraw_c.specs.declared.codes.Status.{Status}
use Rattle.bsonraw_c.specs.declared.codes.Status.TheVariants as status
use Rattle.bsonraw_c.specs.declared.report.Report.{Report}

-- nothing is reported of bytes of this length
abbrev pub no_report : ℕ → Report
no_report end = record { count = 0; path_len = 0; cause = 0; has_key = 0; key_at = end; key_len = 0; fault = no_fault }

-- where this key of an element at this offset is, after the tag; without a key the end of the bytes
abbrev pub IsKeyOf : ℕ → ℕ → Option (List ℕ) → Report → Type 0
IsKeyOf end offset None report = (report.has_key ≡ 0) × (report.key_at ≡ end) × (report.key_len ≡ 0)
IsKeyOf end offset (Some key) report = (report.has_key ≡ 1) × (report.key_at ≡ offset + 1) × (report.key_len ≡ length key)

-- a place: where its element or stop begins, how many steps its path has, and its key; nothing is counted
pub record HasPlace (end offset path_len : ℕ) (key : Option (List ℕ)) (report : Report) : Type 0 where
  pub offset_is : report.fault.offset ≡ offset
  pub len_is : report.path_len ≡ path_len
  pub key_is : IsKeyOf end offset key report
  pub count_is : report.count ≡ 0

-- the numbers of the steps are at the front of the room, as many as it has room for
abbrev pub HasNumbers : List Step → List ℕ → List ℕ → Type 0
HasNumbers steps room path = path ≡ filled_from 0 room (map (λ step. step.number) steps)

-- This is how the call ended, and nothing is reported of the document b.
pub record EndsWith (ending : Status) (b room path : List ℕ) (report : Report) (s : Status) : Type 0 where
  pub report_is : report ≡ no_report (length b)
  pub path_is : path ≡ room
  pub status_is : s ≡ ending

-- The room has place for `count` things; or it is too small.
abbrev pub Fits : ℕ → ℕ → Status → Type 0
Fits count room s = ((count ≤ room) × (s ≡ status.Done)) ⊎ ((room < count) × (s ≡ status.SmallBuffer))

-- memory ran out; it is asked for only where the document b has few enough bytes and a level may be entered
pub record RunsOut (limits : Limits) (b room path : List ℕ) (report : Report) (s : Status) : Type 0 where
  pub few_bytes : length b ≤ limits.bytes
  pub entered : 0 < limits.depth
  pub ends : EndsWith status.NoMemory b room path report s

-- these bytes are no document, for this reason
pub record ReportsRefusal (b room path : List ℕ) (report : Report) (code : ℤ) : Type 0 where
  pub reason : Reason
  pub refused : Refuses b reason
  pub why : SaysKind (kind.MalformedValue reason) report.fault.why
  pub rest : report ≡ record (no_report (length b)) { fault = record { why = report.fault.why; offset = 0 } }
  pub path_is : path ≡ room
  pub returns : Returns status.NoDocument code

-- the status of a barrier
abbrev pub status_of_barrier : Barrier → Status
status_of_barrier too_many_bytes = status.TooManyBytes
status_of_barrier too_deep = status.TooDeep
status_of_barrier (fault_of fault) = status.Fault

-- the numbers say the fault that a barrier is; a limit is none
abbrev pub SaysWhy : Barrier → FaultCode → Type 0
SaysWhy too_many_bytes told = IsNoFault told
SaysWhy too_deep told = IsNoFault told
SaysWhy (fault_of fault) told = TellsFaultCode fault.fault told

-- the key that a barrier carries itself
abbrev pub carried_by : Barrier → Option (List ℕ)
carried_by too_many_bytes = None
carried_by too_deep = None
carried_by (fault_of fault) = fault.key

-- the first of two keys, else the second
abbrev pub key_or : Option (List ℕ) → Option (List ℕ) → Option (List ℕ)
key_or None other = other
key_or (Some key) other = Some key

-- the key of the element to which the steps lead; of a stop, which has no step's key, the one that it carries
abbrev pub key_at : List Step → Barrier → Option (List ℕ)
key_at steps x = key_or (last_key steps) (carried_by x)

-- The first barrier of the document b is reported with its place, and no cause.
pub record ReportsBarrier (limits : Limits) (b room path : List ℕ) (report : Report) (s : Status) : Type 0 where
  pub x : Barrier
  pub steps : List Step
  pub offset : ℕ
  pub there : FirstBarrierAt limits b x steps offset
  pub why : SaysWhy x report.fault.why
  pub place : HasPlace (length b) offset (length steps) (key_at steps x) report
  pub no_cause : report.cause ≡ 0
  pub numbers : HasNumbers steps room path
  pub status_is : s ≡ status_of_barrier x

-- the document b is read as a tree within the limits, and this is how the call ended
pub record HasNoBarrier (limits : Limits) (b room path : List ℕ) (report : Report) (s : Status) : Type 0 where
  pub tree : Tree
  pub read : ReadsWithin limits b tree
  pub ends : EndsWith status.Done b room path report s

-- What is returned of the first barrier of the document b: that it has none; or what it is; or memory ran out.
abbrev pub FaultsIn : Limits → List ℕ → List ℕ → List ℕ → Report → Status → Type 0
FaultsIn limits b room path report s = HasNoBarrier limits b room path report s ⊎ ReportsBarrier limits b room path report s ⊎ RunsOut limits b room path report s

-- the same of any bytes
abbrev pub FaultsBytes : Limits → List ℕ → List ℕ → List ℕ → Report → ℤ → Type 0
FaultsBytes limits b room path report code =
    (IsEnvelope b × (s : Status) × FaultsIn limits b room path report s × Returns s code) ⊎ ReportsRefusal b room path report code
