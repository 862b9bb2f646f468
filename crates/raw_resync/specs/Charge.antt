-- What it costs to find out whether a piece of an input is an undamaged document, and whether its elements follow one another up to its
-- end; and how much may be spent on it.
use Rattle.std.specs.Prelude.{◌≡◌, ◌≢◌, ◌⊎◌, ◌≤◌, ◌<◌, ◌+◌, ◌*◌, ℕ, List, Bool, true, false, drop, length, max, min, Some}
use Rattle.bson_model.specs.Bytes.{NulFree}
use Rattle.raw_view.specs.Frame.Envelope.{IsEnvelope}
use Rattle.raw_view.specs.Frame.Format.{c_string}
use Rattle.raw_view.specs.Frame.Kind.{tag_of}
use Rattle.raw_view.specs.Frame.{Frame, HasKey, HasNoFrame, LeadsTo, Utf8}
use Rattle.raw_view.specs.declared.element_type.ElementType.TheVariants as kind
use Rattle.raw_tree.specs.WithinLimits.{Barrier, IsFaultWith}
use Rattle.raw_tree.specs.declared.reader.limits.Limits.{Limits}
use Rattle.raw_tree.specs.Places.{FirstBarrierAt, Step, last_key}
use Rattle.raw_resync.specs.Pieces.{said_len}
use Rattle.raw_resync.specs.Resync.{IsSound}
use Rattle.raw_resync.specs.declared.work.Work.{Work}

-- r follows the first 0 of s
abbrev pub IsBehindZero : List ℕ → List ℕ → Type 0
IsBehindZero s r = (x : List ℕ) × NulFree x × (s ≡ c_string x r)

-- s has no 0, or only one
abbrev pub HasOneZeroAtMost : List ℕ → Type 0
HasOneZeroAtMost s = NulFree s ⊎ ((r : List ℕ) × IsBehindZero s r × NulFree r)

-- the barrier is a text that isn't UTF-8
abbrev pub IsOfText : Barrier → Type 0
IsOfText x = IsFaultWith (λ fault. fault.fault ≡ Utf8) x

-- a text of a value with this tag is read up to the fault: a text that isn't UTF-8, or the code before a scope
abbrev pub IsBehindText : (tag : ℕ) → Barrier → Type 0
IsBehindText tag x = IsOfText x ⊎ (tag ≡ tag_of kind.JavaScriptCodeWithScope)

-- a text of a value is read up to the fault, and the element at the end of the path has a key
abbrev pub IsOfValue : (tag : ℕ) → Barrier → List Step → Type 0
IsOfValue tag x path = IsBehindText tag x × ((key : List ℕ) × (last_key path ≡ Some key))

-- n bytes of a regular expression are looked at, where s begins with its pattern: the pattern and the options, each with its 0; all bytes,
-- if one has no 0
abbrev pub LooksAtRegex : List ℕ → ℕ → Type 0
LooksAtRegex s n =
    ((r : List ℕ) × (rest : List ℕ) × IsBehindZero s r × IsBehindZero r rest × (n + length rest ≡ length s))
    ⊎ (HasOneZeroAtMost s × (n ≡ length s))

-- n bytes of s are looked at, where s is the rest of a document from its first fault x on, which is at this path. If no key ends, these are
-- all bytes. Otherwise they are the tag and the key with its 0 of the element at the front; also the texts of a regular expression; and
-- also the payload, taken as 16 bytes more than its length says or as all that is left, if a text of the value is read up to its fault.
abbrev pub LooksAt : Barrier → List Step → List ℕ → ℕ → Type 0
LooksAt x path s n =
    (((key : List ℕ) → ¬ HasKey s key) × (n ≡ length s))
    ⊎ ((key : List ℕ) × (k : HasKey s key) × (k.tag ≡ tag_of kind.RegularExpression) × (m : ℕ) × LooksAtRegex k.behind m × (n ≡ length key + 2 + m))
    ⊎ ((key : List ℕ) × (k : HasKey s key) × (k.tag ≢ tag_of kind.RegularExpression) × IsOfValue k.tag x path × (n ≡ min (length s) (length key + 2 + (said_len k.behind + 16))))
    ⊎ ((key : List ℕ) × (k : HasKey s key) × (k.tag ≢ tag_of kind.RegularExpression) × (¬ IsOfValue k.tag x path) × (n ≡ length key + 2))

-- the charge for the document b, which has a fault: the bytes before its first fault, and those of the element at fault that are looked at
abbrev pub ChargesFault : Limits → List ℕ → ℕ → Type 0
ChargesFault limits b n =
    (x : Barrier) × (path : List Step) × (offset : ℕ) × (m : ℕ) × FirstBarrierAt limits b x path offset × LooksAt x path (drop offset b) m × (n ≡ offset + m)

-- whether b, which has an envelope, is an undamaged document, and the charge for finding out: all its bytes if it is; otherwise those up to
-- its first fault
abbrev pub IsProbed : Limits → List ℕ → Bool → ℕ → Type 0
IsProbed limits b true n = IsSound limits b × (n ≡ length b)
IsProbed limits b false n = (¬ IsSound limits b) × ChargesFault limits b n

-- the charge for looking how far the elements of b follow one another: nothing if b has no envelope; otherwise the bytes up to the first
-- place where none is
abbrev pub IsWalked : List ℕ → ℕ → Type 0
IsWalked b n =
    ((¬ IsEnvelope b) × (n ≡ 0)) ⊎ (IsEnvelope b × (fs : List Frame) × LeadsTo (drop 4 b) fs (drop n b) × HasNoFrame (drop n b) × (n ≤ length b))

-- `len` bytes that end at this offset of an input may be looked at: with them fewer than eight times the bytes before the furthest end of a
-- look are charged
abbrev pub HasRoom : Work → (len end : ℕ) → Type 0
HasRoom work len end = work.spent + len < 8 * max work.reach end

-- after a look that ends at this offset of the input, and for which n bytes are charged
abbrev pub charged : Work → (n end : ℕ) → Work
charged work n end = record { spent = work.spent + n; reach = max work.reach end }

-- at most eight times the bytes before the furthest end of a look are charged, in an input of `total` bytes
abbrev pub IsBounded : (total : ℕ) → Work → Type 0
IsBounded total work = (work.spent ≤ 8 * work.reach) × (work.reach ≤ total)
