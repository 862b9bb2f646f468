-- Where reading goes on after damage in the caller's bytes b.
use Rattle.std.specs.Prelude.{◌≡◌, ◌⊎◌, ◌<◌, ◌≤◌, ◌+◌, ◌^◌, ℕ, ℤ, suc, zero, Bool, true, false, not, List, take, drop, length}
use Rattle.raw_bson.specs.Limits.{Limits}
use Rattle.raw_resync.specs.Pieces.{IsPiece}
use Rattle.raw_resync.specs.Resync.{GoesOn, IsDisbelieved}
use Rattle.raw_resync.specs.Charge.{IsBounded}
use Rattle.raw_resync.specs.Searches.{BelievesLength, DoubtsLength, GoesOnBehind, GoesOnElsewhere, IsFoundAt, PassesOver, Walks}
use Rattle.raw_resync.specs.Seeking.{KeepsBound, LacksPiece}
use Rattle.raw_resync.specs.declared.length.Length.TheVariants as lengths
use Rattle.raw_resync.specs.declared.check.Part.{Part}
use Rattle.raw_resync.specs.declared.work.Work.{Work}
use Rattle.bsonraw_c.specs.Iters.{Returns}
use Rattle.bsonraw_c.specs.declared.codes.Status.TheVariants as status
use Rattle.bsonraw_c.specs.declared.reader.Reader.{Reader}
use Rattle.bsonraw_c.specs.declared.resync.Behind.{Behind}
use Rattle.bsonraw_c.specs.declared.resync.Onward.{Onward}
use Rattle.bsonraw_c.specs.declared.resync.Resync.{Resync}

-- the document at the front of s says that it has `len` bytes, which it may have, and s has them
abbrev pub BeginsPiece : (most : ℕ) → List ℕ → ℕ → Type 0
BeginsPiece most s len = (len ≤ length s) × IsPiece most (take len s)

-- No length at the front of s is believed: no document has it, or s has fewer bytes; or its elements don't explain it, and documents go on
-- inside, or not right after it.
abbrev pub HasNoLength : Limits → List ℕ → (at : ℕ) → (old new : Work) → Type 0
HasNoLength limits s at old new =
    (LacksPiece limits.bytes true s × (new ≡ old))
    ⊎ ((len : ℕ) × BeginsPiece limits.bytes s len × IsDisbelieved limits s len × DoubtsLength limits s at len old new)

-- The length at the front of s, `len`, is believed, so reading goes on after it; where not all was looked at, a place was left out.
pub record IsBelieved (limits : Limits) (s : List ℕ) (at len : ℕ) (old new : Work) (all : Bool) : Type 0 where
  pub piece : BeginsPiece limits.bytes s len
  pub right : all ≡ true → ¬ IsDisbelieved limits s len
  pub believed : BelievesLength limits s at len old new all

-- Documents go on `count` bytes after the front of s, and aren't found to go on at a place between.
pub record IsFirstPlace (limits : Limits) (s : List ℕ) (at count : ℕ) (old new : Work) (all : Bool) : Type 0 where
  pub some : 0 < count
  pub within : count ≤ length s
  pub goes_on : GoesOn limits s count
  pub none : all ≡ true → (j : ℕ) → 0 < j → j < count → ¬ GoesOn limits s j
  pub before : Work
  pub passed : PassesOver limits s at 1 count old before all
  pub found : IsFoundAt limits s at count before new

-- where reading goes on after the damage at the front of s, the end of an input from this offset on, and what it costs to find that out
abbrev pub IsOnward : Limits → List ℕ → (at : ℕ) → (old new : Work) → (count : ℕ) → (is_believed all : Bool) → Type 0
IsOnward limits s at old new count true all = IsBelieved limits s at count old new all
IsOnward limits s at old new count false all = (start : Work) × HasNoLength limits s at old start × IsFirstPlace limits s at count start new all

-- a flag is set
abbrev pub flag : Bool → ℕ
flag true = 1
flag false = 0

-- where the damage is: the document that the reader is at, or where it found none
abbrev pub damage_at : (document_len document_at fault_at : ℕ) → ℕ
damage_at zero document fault = fault
damage_at (suc n) document fault = document

abbrev pub damage_of : Reader → ℕ
damage_of reader = damage_at reader.document_len reader.document_at reader.fault.offset

-- what the searches cost so far
abbrev pub work_of : Resync → Work
work_of resync = record { spent = resync.spent; reach = resync.reach }

-- The reader goes on after the damage, and its other fields stay; what was charged is counted, and is at most eight times the bytes.
pub record GoesOnIn (limits : Limits) (b : List ℕ) (damage : ℕ) (old new : Reader) (before after : Resync) : Type 0 where
  pub count : ℕ
  pub is_believed : Bool
  pub all : Bool
  pub onward : IsOnward limits (drop damage b) damage (work_of before) (work_of after) count is_believed all
  pub reader : new ≡ record old { next = damage + count }
  pub flag_is : after.is_believed ≡ flag is_believed
  pub left_out : after.left_out ≡ flag (not all)
  pub bounded : IsBounded (length b) (work_of after)

-- the search isn't made, and nothing is changed
abbrev pub Keeps : Reader → Reader → Resync → Resync → Type 0
Keeps old new before after = (new ≡ old) × (after ≡ before)

-- searches in b can have cost that, and the reader is at a place in it
abbrev pub CanGoOn : List ℕ → Reader → Resync → Type 0
CanGoOn b reader resync = (damage_of reader < length b) × IsBounded (length b) (work_of resync)

-- What is returned of a reader and of searches with any fields: that the reader goes on; or that memory ran out; or that there
-- are more bytes than are counted; or that the fields name no place, or none that searches in these bytes leave.
abbrev pub Resyncs : Limits → List ℕ → Reader → Reader → Resync → Resync → ℤ → Type 0
Resyncs limits b old new before after code =
    (CanGoOn b old before × (length b ≤ 2 ^ 60) × GoesOnIn limits b (damage_of old) old new before after × Returns status.Done code)
    ⊎ (CanGoOn b old before × (length b ≤ 2 ^ 60) × Keeps old new before after × Returns status.NoMemory code)
    ⊎ (CanGoOn b old before × (2 ^ 60 < length b) × Keeps old new before after × Returns status.TooManyBytes code)
    ⊎ ((¬ CanGoOn b old before) × Keeps old new before after × Returns status.BadOffset code)

-- What the code tells. No public contract cites what follows.

-- bytes to be searched: the last of an input, at least one, and few enough to be counted
abbrev pub IsInput : Part → Type 0
IsInput part = (part.is_last ≡ true) × (0 < length part.bytes.now) × (part.at + length part.bytes.now ≤ 2 ^ 60)

abbrev pub GoesOnward : Limits → ℕ → List ℕ → Work → Work → Onward → Type 0
GoesOnward limits at s old new onward = IsOnward limits s at old new onward.count onward.is_believed onward.all × KeepsBound (at + length s) old new

abbrev pub FindsFirst : Limits → ℕ → List ℕ → Work → Work → Onward → Type 0
FindsFirst limits at s old new onward =
    (onward.is_believed ≡ false) × IsFirstPlace limits s at onward.count old new onward.all × KeepsBound (at + length s) old new

-- where the elements of the piece of `len` bytes don't explain its length, and the walk over them cost what searches cost before
abbrev pub GoesInside : Limits → ℕ → List ℕ → (len : ℕ) → Work → Work → Onward → Type 0
GoesInside limits at s len old new onward =
    (start : Work) → Walks at s len start old lengths.Unexplained → KeepsBound (at + len) start old → GoesOnward limits at s start new onward

-- whether documents go on inside the piece of `len` bytes, or not right after it
abbrev pub TellsBehind : Limits → ℕ → List ℕ → (len : ℕ) → Work → Work → (elsewhere all : Bool) → Type 0
TellsBehind limits at s len old new true all = GoesOnElsewhere limits s at len old new
TellsBehind limits at s len old new false all = GoesOnBehind limits s at len old new all

abbrev pub LooksBehind : Limits → ℕ → List ℕ → (len : ℕ) → Work → Work → Behind → Type 0
LooksBehind limits at s len old new behind = TellsBehind limits at s len old new behind.elsewhere behind.all × KeepsBound (at + length s) old new

-- the same where the places inside were passed
abbrev pub LooksAtEnd : Limits → ℕ → List ℕ → (len : ℕ) → Work → Work → (all : Bool) → Behind → Type 0
LooksAtEnd limits at s len old new all behind =
    (inside : Work) → PassesOver limits s at 1 len inside old all → TellsBehind limits at s len inside new behind.elsewhere behind.all × KeepsBound (at + length s) old new

-- what is left of a search for the next
abbrev pub LeavesWork : Onward → Work → Resync → Type 0
LeavesWork onward work resync = (work_of resync ≡ work) × (resync.is_believed ≡ flag onward.is_believed) × (resync.left_out ≡ flag (not onward.all))
