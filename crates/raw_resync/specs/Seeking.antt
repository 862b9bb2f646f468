-- What the code of a search finds in part of an input. If the part isn't the last, `rest` follows, which isn't known.
use Rattle.std.specs.Prelude.{◌≡◌, ◌≢◌, ◌⊎◌, ◌<◌, ◌≤◌, ◌+◌, ◌*◌, ◌^◌, ℕ, List, [], ◌∷◌, ◌++◌, Bool, true, false, Option, None, Some, drop, length, take}
use Rattle.std.specs.Str.{IsUtf8}
use Rattle.raw_view.specs.Frame.Kind.{tag_of}
use Rattle.raw_view.specs.declared.element_type.ElementType.{ElementType}
use Rattle.raw_tree.specs.declared.reader.limits.Limits.{Limits}
use Rattle.raw_resync.specs.Pieces.{IsPiece, said_len}
use Rattle.raw_resync.specs.Resync.{IsBeforeLength}
use Rattle.raw_resync.specs.Charge.{HasRoom, IsBounded, IsProbed, charged}
use Rattle.raw_resync.specs.Searches.{IsFoundAt, IsLeftOut, IsPassedAt, PassesOver}
use Rattle.raw_resync.specs.declared.check.Check.{Check}
use Rattle.raw_resync.specs.declared.check.Check.TheVariants as check
use Rattle.raw_resync.specs.declared.check.Front.{Front}
use Rattle.raw_resync.specs.declared.check.Front.TheVariants as front
use Rattle.raw_resync.specs.declared.search.Places.{Places}
use Rattle.raw_resync.specs.declared.search.Sought.{Sought}
use Rattle.raw_resync.specs.declared.search.Sought.TheVariants as sought
use Rattle.raw_resync.specs.declared.work.Work.{Work}

-- before the first search of an input
abbrev pub no_work : Work
no_work = record { spent = 0; reach = 0 }

-- the charge is within its bound, and no sum overflows
abbrev pub IsWork : Work → Type 0
IsWork w = (w.spent ≤ 8 * w.reach) × (w.reach < 2 ^ 66)

-- what is charged stays within its bound in any input that has the bytes before this end
abbrev pub KeepsBound : (end : ℕ) → (old new : Work) → Type 0
KeepsBound end old new = (total : ℕ) → end ≤ total → IsBounded total old → IsBounded total new

-- a piece b that ends at this offset of the input is probed, or left out
abbrev pub ProbesOrLeaves : Limits → List ℕ → ℕ → (old new : Work) → Option Bool → Type 0
ProbesOrLeaves limits b end old new None = (¬ HasRoom old (length b) end) × (new ≡ old)
ProbesOrLeaves limits b end old new (Some is) = HasRoom old (length b) end × (n : ℕ) × IsProbed limits b is n × (new ≡ charged old n end)

-- no piece is at the front of t: t is the end of the input, and has fewer than four bytes or fewer than its length says; or no document may
-- have its length
abbrev pub LacksPiece : ℕ → Bool → List ℕ → Type 0
LacksPiece most is_last t =
    ((is_last ≡ true) × (0 < length t) × ((length t < 4) ⊎ (length t < said_len t))) ⊎ ((4 ≤ length t) × ((said_len t < 5) ⊎ (most < said_len t)))

-- the byte after the length at the front of t is no tag
abbrev pub LacksTag : List ℕ → Type 0
LacksTag t = (x : ℕ) × (r : List ℕ) × (drop 4 t ≡ x ∷ r) × ((kind : ElementType) → x ≢ tag_of kind)

-- no piece is at the front of any place between these two
abbrev pub LacksPieces : ℕ → Bool → List ℕ → (place next : ℕ) → Type 0
LacksPieces most is_last bytes place next = (j : ℕ) → place < j → j < next → LacksPiece most is_last (drop j bytes)

-- what is at the front of the bytes from `place` on
abbrev pub TellsFront : ℕ → List ℕ → Bool → ℕ → Front → Type 0
TellsFront most bytes is_last place front.End = (is_last ≡ true) × (drop place bytes ≡ [])
TellsFront most bytes is_last place front.NoPiece =
    LacksPiece most is_last (drop place bytes) ⊎ ((length (drop place bytes) < said_len (drop place bytes)) × LacksTag (drop place bytes))
TellsFront most bytes is_last place (front.Wants n) = (is_last ≡ false) × (length bytes < n) × (n ≤ place + most + 4)
TellsFront most bytes is_last place (front.Piece len) = (place + len ≤ length bytes) × IsPiece most (take len (drop place bytes))

-- n bytes are needed, which is more than there are
abbrev pub Wants : Limits → List ℕ → Bool → ℕ → ℕ → Type 0
Wants limits bytes is_last place n = (is_last ≡ false) × (length bytes < n) × (n ≤ place + limits.bytes + 4)

-- what is found at a place of s, the rest of an input
abbrev pub TellsCheck : Limits → List ℕ → (at place : ℕ) → (old new : Work) → Check → Type 0
TellsCheck limits s at place old new check.GoesOn = IsFoundAt limits s at place old new
TellsCheck limits s at place old new check.Stops = IsPassedAt limits s at place old new × ¬ IsLeftOut limits s at place old
TellsCheck limits s at place old new check.LeftOut = IsPassedAt limits s at place old new × IsLeftOut limits s at place old
TellsCheck limits s at place old new (check.Wants n) = new ≡ old

-- which bytes have to be there if that is found
abbrev pub IsCheckedIn : Limits → List ℕ → Bool → ℕ → Check → Type 0
IsCheckedIn limits bytes is_last place check.GoesOn = Unit {0}
IsCheckedIn limits bytes is_last place check.Stops = place < length bytes
IsCheckedIn limits bytes is_last place check.LeftOut = place < length bytes
IsCheckedIn limits bytes is_last place (check.Wants n) = Wants limits bytes is_last place n

-- `rest` may follow the bytes
abbrev pub MayFollow : Bool → List ℕ → Type 0
MayFollow is_last rest = is_last ≡ true → rest ≡ []

-- a place is looked at in bytes at this offset of the input, whatever follows them
pub record Checks (limits : Limits) (bytes : List ℕ) (is_last : Bool) (at place : ℕ) (old new : Work) (told : Check) : Type 0 where
  pub bounded : KeepsBound (at + length bytes) old new
  pub here : IsCheckedIn limits bytes is_last place told
  pub tells : (rest : List ℕ) → MayFollow is_last rest → TellsCheck limits (bytes ++ rest) at place old new told

-- what a search finds in s, the rest of an input
abbrev pub TellsSought : Limits → List ℕ → (at : ℕ) → Places → (old new : Work) → Sought → Type 0
TellsSought limits s at p old new (sought.Found place all) =
    (p.from ≤ place) × (place < p.until) × (mid : Work) × PassesOver limits s at p.from place old mid all × IsFoundAt limits s at place mid new
TellsSought limits s at p old new (sought.Nowhere all) = PassesOver limits s at p.from p.until old new all
TellsSought limits s at p old new (sought.Wants place n all) = (p.from ≤ place) × (place < p.until) × PassesOver limits s at p.from place old new all

-- which bytes have to be there if that is found
abbrev pub IsSoughtIn : Limits → List ℕ → Bool → Places → Sought → Type 0
IsSoughtIn limits bytes is_last p (sought.Found place all) = place ≤ length bytes
IsSoughtIn limits bytes is_last p (sought.Nowhere all) = p.until ≤ length bytes
IsSoughtIn limits bytes is_last p (sought.Wants place n all) = (place ≤ length bytes) × Wants limits bytes is_last place n

-- a search in bytes at this offset of the input, whatever follows them
pub record Seeks (limits : Limits) (bytes : List ℕ) (is_last : Bool) (at : ℕ) (p : Places) (old new : Work) (told : Sought) : Type 0 where
  pub bounded : KeepsBound (at + length bytes) old new
  pub here : IsSoughtIn limits bytes is_last p told
  pub tells : (rest : List ℕ) → MayFollow is_last rest → TellsSought limits (bytes ++ rest) at p old new told

-- the tag of an element whose payload begins with a length, or what may look like one, and a key: UTF-8, and not empty
abbrev pub IsKeyAfter : (tag : ℕ) → List ℕ → Type 0
IsKeyAfter tag key = IsBeforeLength tag × (0 < length key) × IsUtf8 key

-- what is found at a place by probing its piece
abbrev pub check_of : Option Bool → Check
check_of None = check.LeftOut
check_of (Some true) = check.GoesOn
check_of (Some false) = check.Stops
