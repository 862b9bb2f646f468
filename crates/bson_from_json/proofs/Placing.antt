-- Where the lengths of open levels are among the bytes.
use Rattle.std.proofs.Common.{◌≡◌, ◌≤◌, ◌++◌, ◌∷◌, [], List, ℕ, length, length-append, arith, ap}
use Rattle.std.proofs.lemmas.List.Elements.{All-from_recursion, All-push, recursion_from_All}
use Rattle.std.specs.List.{AllByRecursion}
use Rattle.bson_from_json.specs.Placed.{ArePlaced, IsPlaced}
use Rattle.bson_from_json.specs.declared.levels.Level.{Level}

-- more bytes
pub placed_more : (n m : ℕ) (ls : List Level) → n ≤ m → ArePlaced n ls → ArePlaced m ls
placed_more n m ls less h = λ k d l. (omega (arith, (h k d l).0, less), omega (arith, (h k d l).1, less))

-- one more level
pub placed_last : (n : ℕ) (ls : List Level) (l : Level) → ArePlaced n ls → IsPlaced n l → ArePlaced n (ls ++ l ∷ [])
placed_last n ls l h is = All-push (IsPlaced n) ls l h is

without_last : (P : Level → Type 0) (ls : List Level) (l : Level) → AllByRecursion P (ls ++ l ∷ []) → AllByRecursion P ls × P l
without_last P [] l h = (tt, h.0)
without_last P (k ∷ ls) l h = let rest = without_last P ls l h.1 in ((h.0, rest.0), rest.1)

-- one level less
pub placed_others : (n : ℕ) (ls : List Level) (l : Level) → ArePlaced n (ls ++ l ∷ []) → ArePlaced n ls × IsPlaced n l
placed_others n ls l h =
    let both = without_last (IsPlaced n) ls l (recursion_from_All (IsPlaced n) (ls ++ l ∷ []) h) in (All-from_recursion (IsPlaced n) ls both.0, both.1)

-- the length of bytes that others follow
pub length_after : (a b c : List ℕ) → c ≡ a ++ b → length a ≤ length c
length_after a b c e = omega (arith, ap length e, length-append a b)
